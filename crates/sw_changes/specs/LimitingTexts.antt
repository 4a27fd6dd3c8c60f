-- The words of what limits on unanswered commands free a network (this project's choice).
use Rattle.std.specs.Prelude.{ℕ, List, Option, Some, None, [], ◌∷◌, ◌++◌, codes, flat_map}
use Rattle.std.specs.Fmt.{decimal}
use Rattle.sw_config.specs.Entries.{Declaration}
use Rattle.sw_mend.specs.Limitings.{Limiting}
use Rattle.sw_mend.specs.declared.limiting.TargetSlots.{TargetSlots}
use Rattle.sw_output.specs.ChannelTexts.{node_name}
use Rattle.sw_output.specs.Lines.{line, spaced}
use Rattle.sw_explain.specs.ExplainTexts.{ending}

-- how many commands of each flow may be unanswered
abbrev pub most_words : ℕ → List ℕ
most_words most = codes "at most " ++ (decimal most ++ (codes " unanswered command" ++ (ending most ++ codes " of each flow")))

-- how many replies the target of a node has to be able to owe
abbrev pub target_slots_words : Declaration → TargetSlots → List ℕ
target_slots_words d more = spaced (decimal more.slots ∷ codes "at" ∷ node_name d more.node ∷ [])

-- the same behind a comma
abbrev pub further_slots_words : Declaration → TargetSlots → List ℕ
further_slots_words d more = codes ", " ++ target_slots_words d more

-- the same of each of these
abbrev pub slots_words : Declaration → List TargetSlots → List ℕ
slots_words d [] = []
slots_words d (more ∷ others) = codes "slots " ++ (target_slots_words d more ++ flat_map (further_slots_words d) others)

-- the limit, or the slots, or both
abbrev pub limit_and_slots_words : Declaration → Option ℕ → List TargetSlots → List ℕ
limit_and_slots_words d None slots = slots_words d slots
limit_and_slots_words d (Some most) [] = most_words most
limit_and_slots_words d (Some most) (more ∷ others) = most_words most ++ (codes ", and " ++ slots_words d (more ∷ others))

abbrev pub limiting_words : Declaration → Limiting → List ℕ
limiting_words d limiting = spaced (codes "with" ∷ limit_and_slots_words d limiting.most limiting.slots ∷ [])

-- that the network is free with these
abbrev pub limiting_line : Declaration → Limiting → List ℕ
limiting_line d limiting = line (codes "free" ∷ limiting_words d limiting ∷ [])
