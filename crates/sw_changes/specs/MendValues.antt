-- The objects that stand for what frees a network (this project's choice).
use Rattle.std.specs.Prelude.{ℕ, Option, Some, None, List, [], ◌∷◌, ◌++◌, codes, map, slice_get}
use Rattle.std.specs.Option.{option_map}
use Rattle.serde_json.specs.Data.{Data, array, object, string, member, no_members}
use Rattle.serde_json.specs.View.{items_of}
use Rattle.sw_changes.specs.MendTexts.{change_words, told_pairs, trial_words}
use Rattle.sw_changes.specs.declared.mending.Cures.{Cures}
use Rattle.sw_changes.specs.declared.mending.Mending.{Mending}
use Rattle.sw_changes.specs.declared.mending.Mending.TheVariants.{Misrouted, Free, Cyclic}
use Rattle.sw_config.specs.Entries.{Declaration, routes_of}
use Rattle.sw_json.specs.FileValues.{kind_value}
use Rattle.sw_json.specs.PlaceValues.{flow_name_value}
use Rattle.sw_json.specs.Simple.{count_or_null, count_value}
use Rattle.sw_json.specs.VerdictValues.{verdict_value}
use Rattle.sw_changes.specs.LimitingValues.{limiting_line_words, limiting_values}
use Rattle.sw_mend.specs.Limitings.{Limiting}
use Rattle.sw_mend.specs.declared.change.Change.{Change}
use Rattle.sw_mend.specs.declared.change.Change.TheVariants.{WithoutReply, WithoutReplies, WithoutFlow, WithoutAnswers, WithoutPort, WithoutEntry, WithoutFlowsOf}
use Rattle.sw_mend.specs.declared.change.Pair.{Pair}
use Rattle.sw_mend.specs.declared.change.TargetLink.{TargetLink}
use Rattle.sw_mend.specs.declared.change.Trial.{Trial}
use Rattle.sw_mend.specs.declared.change.Trial.TheVariants.{Without, Split}
use Rattle.sw_output.specs.ChannelTexts.{node_name, switch_name}
use Rattle.sw_output.specs.Lines.{spaced}
use Rattle.sw_search.specs.declared.verdict.Verdict.TheVariants as verdict

-- ---- a change

-- the addresses that the entry of that number of that switch's table is for: the first, and the last; null where there is no such entry
abbrev pub first_value : Declaration → ℕ → ℕ → Data
first_value d switch entry = count_or_null (option_map (λ r. r.first) (slice_get (routes_of d.switches switch) entry))

abbrev pub last_value : Declaration → ℕ → ℕ → Data
last_value d switch entry = count_or_null (option_map (λ r. r.last) (slice_get (routes_of d.switches switch) entry))

-- a change of what goes with a flow
abbrev pub of_flow : Declaration → List ℕ → ℕ → Data
of_flow d kind flow =
    object (member (codes "flow") (flow_name_value d flow)
    (member (codes "kind") (string kind) no_members))

-- a change of what goes with a node
abbrev pub of_node : Declaration → List ℕ → ℕ → Data
of_node d kind node =
    object (member (codes "kind") (string kind)
    (member (codes "node") (string (node_name d node)) no_members))

-- a change of what goes with the flows from one node to another
abbrev pub of_nodes : Declaration → List ℕ → ℕ → ℕ → Data
of_nodes d kind from to =
    object (member (codes "from") (string (node_name d from))
    (member (codes "kind") (string kind)
    (member (codes "to") (string (node_name d to)) no_members)))

-- a port less for the addresses of a table entry
abbrev pub of_port : Declaration → ℕ → ℕ → ℕ → Data
of_port d switch entry port =
    object (member (codes "first") (first_value d switch entry)
    (member (codes "kind") (string (codes "port"))
    (member (codes "last") (last_value d switch entry)
    (member (codes "port") (count_value port)
    (member (codes "switch") (string (switch_name d switch)) no_members)))))

-- a table entry less
abbrev pub of_entry : Declaration → ℕ → ℕ → Data
of_entry d switch entry =
    object (member (codes "first") (first_value d switch entry)
    (member (codes "kind") (string (codes "entry"))
    (member (codes "last") (last_value d switch entry)
    (member (codes "switch") (string (switch_name d switch)) no_members))))

-- what is taken away: the reply of a flow, the replies to the flows from one node to another, a flow, all replies of a node, a port, a table
-- entry, or the flows from and to a node
abbrev pub change_value : Declaration → Change → Data
change_value d (WithoutReply flow) = of_flow d (codes "reply") flow
change_value d (WithoutReplies from to) = of_nodes d (codes "replies between") from to
change_value d (WithoutFlow flow) = of_flow d (codes "flow") flow
change_value d (WithoutAnswers node) = of_node d (codes "replies") node
change_value d (WithoutPort switch entry port) = of_port d switch entry port
change_value d (WithoutEntry switch entry) = of_entry d switch entry
change_value d (WithoutFlowsOf node) = of_node d (codes "flows") node

-- what the target of a node gets: a link of its own, at that port of the switch
abbrev pub split_value : Declaration → TargetLink → Data
split_value d link =
    object (member (codes "kind") (string (codes "target link"))
    (member (codes "node") (string (node_name d link.node))
    (member (codes "port") (count_value link.port)
    (member (codes "switch") (string (switch_name d link.switch)) no_members))))

abbrev pub trial_value : Declaration → Trial → Data
trial_value d (Without change) = change_value d change
trial_value d (Split link) = split_value d link

-- ---- what frees a network

-- changes that free the network together, with their line
abbrev pub told_mend : List Data → List ℕ → Data
told_mend changes text =
    object (member (codes "changes") (array (items_of changes))
    (member (codes "text") (string text) no_members))

-- the line of `mend` for a single change, without its LF
abbrev pub mend_words : Declaration → Trial → List ℕ
mend_words d change = spaced (codes "free" ∷ trial_words d change ∷ [])

-- the line for a pair of changes, without its LF
abbrev pub pair_words : Declaration → Pair → List ℕ
pair_words d pair = spaced (codes "free" ∷ change_words d pair.first ∷ codes "and" ∷ change_words d pair.second ∷ [])

-- a single change that frees it
abbrev pub mend_value : Declaration → Trial → Data
mend_value d change = told_mend (trial_value d change ∷ []) (mend_words d change)

-- a pair of changes that free it
abbrev pub pair_value : Declaration → Pair → Data
pair_value d pair = told_mend (change_value d pair.first ∷ change_value d pair.second ∷ []) (pair_words d pair)

-- all that frees it
abbrev pub mends_value : List Data → Data
mends_value mends =
    object (member (codes "kind") (string (codes "mends"))
    (member (codes "mends") (array (items_of mends)) no_members))

-- a limit and slots that free it together
abbrev pub limiting_mends : Declaration → Option Limiting → List Data
limiting_mends d None = []
limiting_mends d (Some limiting) = told_mend (limiting_values d limiting) (limiting_line_words d limiting) ∷ []

-- the limit and the slots, then each change of a part, each pair, and each unit
abbrev pub cure_values : Declaration → Cures → List Data
cure_values d cures =
    limiting_mends d cures.limiting
    ++ (map (mend_value d) cures.changes.items
    ++ (map (pair_value d) (told_pairs cures)
    ++ map (mend_value d) cures.units.items))

-- what is found: the verdict, where a flow is not well routed; else that the network is free, or what frees it
abbrev pub mending_value : Declaration → Mending → Data
mending_value d (Misrouted flow place fault) = verdict_value d (verdict.Misrouted flow place fault)
mending_value d Free = kind_value (codes "free")
mending_value d (Cyclic cures) = mends_value (cure_values d cures)
