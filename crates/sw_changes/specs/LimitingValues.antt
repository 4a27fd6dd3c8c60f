-- The objects that stand for what limits on unanswered commands free a network (this project's choice).
use Rattle.std.specs.Prelude.{ℕ, List, Option, Some, None, [], ◌∷◌, ◌++◌, codes, map}
use Rattle.serde_json.specs.Data.{Data, object, string, member, no_members}
use Rattle.sw_config.specs.Entries.{Declaration}
use Rattle.sw_json.specs.Simple.{count_value}
use Rattle.sw_mend.specs.Limitings.{Limiting}
use Rattle.sw_mend.specs.declared.limiting.TargetSlots.{TargetSlots}
use Rattle.sw_output.specs.ChannelTexts.{node_name}
use Rattle.sw_output.specs.Lines.{spaced}
use Rattle.sw_changes.specs.LimitingTexts.{limiting_words}

-- how many commands of each flow may be unanswered
abbrev pub most_value : ℕ → Data
most_value most =
    object (member (codes "kind") (string (codes "limit"))
    (member (codes "outstanding") (count_value most) no_members))

abbrev pub most_values : Option ℕ → List Data
most_values None = []
most_values (Some most) = most_value most ∷ []

-- how many replies the target of a node has to be able to owe
abbrev pub target_slots_value : Declaration → TargetSlots → Data
target_slots_value d more =
    object (member (codes "kind") (string (codes "slots"))
    (member (codes "node") (string (node_name d more.node))
    (member (codes "slots") (count_value more.slots) no_members)))

-- the limit, and the slots of each target
abbrev pub limiting_values : Declaration → Limiting → List Data
limiting_values d limiting = most_values limiting.most ++ map (target_slots_value d) limiting.slots

-- the line of `mend`, without its LF
abbrev pub limiting_line_words : Declaration → Limiting → List ℕ
limiting_line_words d limiting = spaced (codes "free" ∷ limiting_words d limiting ∷ [])
