-- The objects that stand for why a network can lock up (this project's choice).
use Rattle.std.specs.Prelude.{◌≡◌, ℕ, List, [], ◌∷◌, codes, map}
use Rattle.serde_json.specs.Data.{Data, array, null, object, string, member, no_members}
use Rattle.serde_json.specs.View.{items_of}
use Rattle.sw_explain.specs.ExplainTexts.{explain_status, slots_at}
use Rattle.sw_config.specs.Entries.{Declaration}
use Rattle.sw_config.specs.Limits.{limit_at}
use Rattle.sw_cycle.specs.Cycles.{CauseEntry, ByFlow, ByTarget}
use Rattle.sw_search.specs.declared.explanation.Explanation.{Explanation}
use Rattle.sw_search.specs.declared.explanation.Explanation.TheVariants.{Misrouted, Cyclic, Free}
use Rattle.sw_search.specs.declared.tangle.Tangle.{Tangle}
use Rattle.sw_flow.specs.declared.fault.RouteFault.{RouteFault}
use Rattle.sw_flow.specs.declared.place.Place.{Place}
use Rattle.sw_json.specs.Answering.{IsCommandOutcome, Results}
use Rattle.sw_json.specs.FileValues.{kind_value}
use Rattle.sw_json.specs.PlaceValues.{finish_text, flow_name_value, misrouted_fault_value, place_value}
use Rattle.sw_json.specs.Simple.{count_or_null, count_value, texts_value}
use Rattle.sw_linter.specs.CirclingTexts.{AreCirclingTexts}
use Rattle.sw_output.specs.ChannelTexts.{node_name, start_text}

-- ---- a flow that is not well routed

-- what is wrong at the last of the places that the flow's packets go over, the flow, what there is to note, and the values of these places
abbrev pub misrouted_value : Declaration → List (List ℕ) → ℕ → Place → RouteFault → List Data → Data
misrouted_value d lint flow place fault way =
    object (member (codes "fault") (misrouted_fault_value place fault)
    (member (codes "flow") (flow_name_value d flow)
    (member (codes "kind") (string (codes "misrouted"))
    (member (codes "lint") (texts_value lint)
    (member (codes "way") (array (items_of way)) no_members)))))

abbrev pub wrong_value : Declaration → List (List ℕ) → ℕ → Place → RouteFault → List Place → Data
wrong_value d lint flow place fault way = misrouted_value d lint flow place fault (map (place_value d) way)

-- ---- channels that can wait for one another in circles

-- the node whose target makes a channel wait for the next, or null where flows do
abbrev pub target_value : Declaration → CauseEntry → Data
target_value d (ByTarget node) = string (node_name d node)
target_value d (ByFlow flow places) = null

-- how many commands may be unanswered at the target, or null where any number may, and where flows make a channel wait
abbrev pub limit_value : Declaration → CauseEntry → Data
limit_value d (ByTarget node) = count_or_null (limit_at d node)
limit_value d (ByFlow flow places) = null

-- how many replies the target may owe, or null where flows make a channel wait
abbrev pub slots_value : Declaration → CauseEntry → Data
slots_value d (ByTarget node) = count_or_null (slots_at d node)
slots_value d (ByFlow flow places) = null

-- A step of a cycle: the channel's number, the end of a link at which it ends, all flows that go on from it to the next channel, how
-- many commands may be unanswered at the target that makes it wait for the next channel, and how many replies it may owe, the end at
-- which the channel starts, and the target, if one makes it wait.
abbrev pub step_value : Declaration → ℕ → CauseEntry → List ℕ → Data
step_value d c cause flows =
    object (member (codes "channel") (count_value c)
    (member (codes "end") (string (finish_text d c))
    (member (codes "flows") (array (items_of (map (flow_name_value d) flows)))
    (member (codes "limit") (limit_value d cause)
    (member (codes "slots") (slots_value d cause)
    (member (codes "start") (string (start_text d c))
    (member (codes "target") (target_value d cause) no_members)))))))

-- the steps of channels, the causes why each waits for the next, and the flows that go on to it
abbrev pub step_values : Declaration → List ℕ → List CauseEntry → List (List ℕ) → List Data
step_values d (c ∷ channels) (cause ∷ causes) (flows ∷ rows) = step_value d c cause flows ∷ step_values d channels causes rows
step_values d channels causes rows = []

-- a tangle: how many channels it has, and its shortest cycle
abbrev pub tangle_value : Declaration → Tangle → Data
tangle_value d t =
    object (member (codes "channels") (count_value t.channels)
    (member (codes "cycle") (array (items_of (step_values d t.cycle.channels t.cycle.causes (map (λ flows. flows.items) t.flows.items)))) no_members))

abbrev pub tangles_value : Declaration → List (List ℕ) → List Tangle → Data
tangles_value d lint tangles =
    object (member (codes "kind") (string (codes "cyclic"))
    (member (codes "lint") (texts_value lint)
    (member (codes "tangles") (array (items_of (map (tangle_value d) tangles))) no_members)))

-- ---- all together

-- with a note on each flow whose packets can come back to a place, or of which none arrives
abbrev pub WithNotes : Declaration → (List (List ℕ) → Data) → ℕ → Results
WithNotes d value_of number value status = (lint : List (List ℕ)) × AreCirclingTexts d lint × IsCommandOutcome (value_of lint) number value status

-- what is told of a network; where it never locks up, there is no such flow
abbrev pub explain_results : Declaration → Explanation → Results
explain_results d (Misrouted flow place fault way) = WithNotes d (λ lint. wrong_value d lint flow place fault way.items) 1
explain_results d (Cyclic tangles) = WithNotes d (λ lint. tangles_value d lint tangles.items) 1
explain_results d Free = IsCommandOutcome (kind_value (codes "free")) 0

-- with the explanation's status
pub explain_has_status : (d : Declaration) (e : Explanation) (value : Data) (status : ℕ) → explain_results d e value status → status ≡ explain_status e
explain_has_status d (Misrouted flow place fault way) value status is = is.2.1
explain_has_status d (Cyclic tangles) value status is = is.2.1
explain_has_status d Free value status is = is.1
