-- The text of `mend` (this project's choice).
use Rattle.std.specs.Prelude.{ℕ, Bool, List, Option, Some, None, [], ◌∷◌, ◌++◌, codes, flat_map, is_some, length, not, ◌==◌, ◌||◌, if◌then◌else◌}
use Rattle.std.specs.Option.{option_map_or}
use Rattle.std.specs.Fmt.{decimal}
use Rattle.sw_config.specs.Entries.{Declaration}
use Rattle.sw_mend.specs.Limitings.{Limiting}
use Rattle.sw_mend.specs.declared.change.Change.{Change}
use Rattle.sw_mend.specs.declared.change.Change.TheVariants.{WithoutReply, WithoutReplies, WithoutFlow, WithoutAnswers, WithoutPort, WithoutEntry, WithoutFlowsOf}
use Rattle.sw_mend.specs.declared.change.Pair.{Pair}
use Rattle.sw_mend.specs.declared.change.TargetLink.{TargetLink}
use Rattle.sw_mend.specs.declared.change.Trial.{Trial}
use Rattle.sw_mend.specs.declared.change.Trial.TheVariants.{Without, Split}
use Rattle.sw_output.specs.ChannelTexts.{node_name, switch_name}
use Rattle.sw_output.specs.EntryTexts.{entry_words}
use Rattle.sw_output.specs.FlowTexts.{flow_name}
use Rattle.sw_output.specs.Lines.{line, spaced}
use Rattle.sw_output.specs.VerdictTexts.{misrouted_words}
use Rattle.sw_changes.specs.LimitingTexts.{limiting_line}
use Rattle.sw_changes.specs.declared.mending.Cures.{Cures}
use Rattle.sw_changes.specs.declared.mending.Mending.{Mending}
use Rattle.sw_changes.specs.declared.mending.Mending.TheVariants.{Misrouted, Free, Cyclic}

-- what is less of a table entry: that port, or all of it
abbrev pub less_of : ℕ → ℕ → Option ℕ → Change
less_of switch entry (Some port) = WithoutPort switch entry port
less_of switch entry None = WithoutEntry switch entry

-- what is taken away
abbrev pub change_words : Declaration → Change → List ℕ
change_words d (WithoutReply flow) = spaced (codes "without the reply of" ∷ flow_name d flow ∷ [])
change_words d (WithoutReplies from to) =
    spaced (codes "without the replies to the flows from" ∷ node_name d from ∷ codes "to" ∷ node_name d to ∷ [])
change_words d (WithoutFlow flow) = spaced (codes "without the flow" ∷ flow_name d flow ∷ [])
change_words d (WithoutAnswers node) = spaced (codes "without any reply of" ∷ node_name d node ∷ [])
change_words d (WithoutPort switch entry port) =
    spaced (codes "without port" ∷ decimal port ∷ codes "for" ∷ entry_words d switch entry ∷ codes "at" ∷ switch_name d switch ∷ [])
change_words d (WithoutEntry switch entry) =
    spaced (codes "without the entry for" ∷ entry_words d switch entry ∷ codes "at" ∷ switch_name d switch ∷ [])
change_words d (WithoutFlowsOf node) = spaced (codes "without the flows from and to" ∷ node_name d node ∷ [])

-- what the target of a node gets
abbrev pub split_words : Declaration → TargetLink → List ℕ
split_words d link =
    codes "with a link of its own for the target of " ++ (node_name d link.node
    ++ (codes ", at port " ++ (decimal link.port ++ (codes " of " ++ switch_name d link.switch))))

abbrev pub trial_words : Declaration → Trial → List ℕ
trial_words d (Without change) = change_words d change
trial_words d (Split link) = split_words d link

-- that a network is free without or with this
abbrev pub mend_line : Declaration → Trial → List ℕ
mend_line d change = line (codes "free" ∷ trial_words d change ∷ [])

-- that it is free without both
abbrev pub pair_line : Declaration → Pair → List ℕ
pair_line d pair = line (codes "free" ∷ change_words d pair.first ∷ codes "and" ∷ change_words d pair.second ∷ [])

-- that no change frees it
abbrev pub none_line : List ℕ
none_line = line (codes "no single change frees it" ∷ [])

-- that no two changes do either
abbrev pub no_pair_line : List ℕ
no_pair_line = line (codes "no pair of changes frees it" ∷ [])

-- the pairs that free the network; none where they were not looked for
abbrev pub told_pairs : Cures → List Pair
told_pairs cures = option_map_or (λ told. told.items) cures.pairs []

-- a line for the limit and the slots that free the network, if there are such
abbrev pub limiting_lines : Declaration → Option Limiting → List ℕ
limiting_lines d None = []
limiting_lines d (Some limiting) = limiting_line d limiting

-- that line, then a line for each change of a part that frees the network, for each pair, and for each unit
abbrev pub cure_lines : Declaration → Cures → List ℕ
cure_lines d cures =
    limiting_lines d cures.limiting
    ++ (flat_map (mend_line d) cures.changes.items
    ++ (flat_map (pair_line d) (told_pairs cures)
    ++ flat_map (mend_line d) cures.units.items))

-- the list has an element
abbrev pub has_some : {A : Type 0} → List A → Bool
has_some xs = not (length xs == 0)

-- a limit, some change or some pair frees the network
abbrev pub is_cured : Cures → Bool
is_cured cures = is_some cures.limiting || has_some cures.changes.items || has_some (told_pairs cures) || has_some cures.units.items

-- those lines, or that nothing frees it
abbrev pub cures_text : Declaration → Cures → List ℕ
cures_text d cures = if is_cured cures then cure_lines d cures else if is_some cures.pairs then no_pair_line else none_line

-- 0 where something frees it
abbrev pub cures_status : Cures → ℕ
cures_status cures = if is_cured cures then 0 else 1

-- that there is nothing to mend
abbrev pub free_line : List ℕ
free_line = line (codes "free already" ∷ [])

-- what is found of a network
abbrev pub mending_text : Declaration → Mending → List ℕ
mending_text d (Misrouted flow place fault) = line (misrouted_words d flow place fault ∷ [])
mending_text d Free = free_line
mending_text d (Cyclic cures) = cures_text d cures

-- 0 where the network is free, or some change or some pair frees it
abbrev pub mending_status : Mending → ℕ
mending_status (Misrouted flow place fault) = 1
mending_status Free = 0
mending_status (Cyclic cures) = cures_status cures
