-- The object that stands for a verdict on a network (this project's choice).
use Rattle.std.specs.Prelude.{ℕ, ◌-◌, List, [], codes, length, map}
use Rattle.std.specs.List.{zip}
use Rattle.serde_json.specs.Data.{Data, array, object, string, member, no_members}
use Rattle.serde_json.specs.View.{items_of}
use Rattle.sw_cert.specs.Grammar.{spelling}
use Rattle.sw_cert.specs.Text.{Contents}
use Rattle.sw_config.specs.Entries.{Declaration, all_flows, wiring_of}
use Rattle.sw_search.specs.Cycles.{CauseEntry, ByTarget, ByFlow, CycleEntry}
use Rattle.sw_flow.specs.declared.fault.RouteFault.{RouteFault}
use Rattle.sw_flow.specs.declared.place.Place.{Place}
use Rattle.sw_json.specs.PlaceValues.{finish_text, route_fault_code}
use Rattle.sw_json.specs.Simple.{count_value, digest_text}
use Rattle.sw_output.specs.ChannelTexts.{node_name, start_text}
use Rattle.sw_output.specs.FlowTexts.{flow_name}
use Rattle.sw_output.specs.VerdictTexts.{height, misrouted_words}
use Rattle.sw_search.specs.declared.verdict.Verdict.{Verdict}
use Rattle.sw_search.specs.declared.verdict.Verdict.TheVariants.{Misrouted, Cyclic, Free}

-- what makes a channel wait for the next: `{"target": NODE}` or `{"flow": FLOW}`
abbrev pub cause_value : Declaration → CauseEntry → Data
cause_value d (ByTarget node) = object (member (codes "target") (string (node_name d node)) no_members)
cause_value d (ByFlow flow places) = object (member (codes "flow") (string (flow_name d flow)) no_members)

-- a channel of a cycle: its number, the ends of its link at which it starts and ends, and what makes it wait for the next
abbrev pub channel_value : Declaration → ℕ × CauseEntry → Data
channel_value d p =
    object (member (codes "by") (cause_value d p.1)
    (member (codes "channel") (count_value p.0)
    (member (codes "end") (string (finish_text d p.0))
    (member (codes "start") (string (start_text d p.0)) no_members))))

-- the channels of a cycle, each with its cause, in the order in which they wait for one another
abbrev pub cyclic_value : Declaration → CycleEntry → Data
cyclic_value d cycle =
    object (member (codes "channels") (array (items_of (map (channel_value d) (zip cycle.channels cycle.causes))))
    (member (codes "kind") (string (codes "cyclic")) no_members))

-- the certificate's text in its one spelling; of a verdict without one, nothing
abbrev pub certificate_bytes : Verdict → List ℕ
certificate_bytes (Misrouted i p fault) = []
certificate_bytes (Cyclic cycle) = []
certificate_bytes (Free contents) = spelling contents.numbers contents.places

-- the greatest of a certificate's numbers, the SHA-256 of its text, and how many parts the network has; `flows` are the declared ones,
-- `replies` those of replies
abbrev pub free_value : Declaration → Contents → Data
free_value d contents =
    object (member (codes "certificate_sha256") (string (digest_text (spelling contents.numbers contents.places)))
    (member (codes "channels") (count_value (length (wiring_of d).ends))
    (member (codes "flows") (count_value (length d.flows))
    (member (codes "height") (count_value (height contents.numbers))
    (member (codes "kind") (string (codes "free"))
    (member (codes "links") (count_value (length d.links))
    (member (codes "nodes") (count_value (length d.nodes))
    (member (codes "replies") (count_value (length (all_flows d) - length d.flows))
    (member (codes "switches") (count_value (length d.switches)) no_members)))))))))

-- a flow, its place with a fault (channel, and how many address bytes are deleted there), the fault's code, and the line of `decide`
abbrev pub misrouted_value : Declaration → ℕ → Place → RouteFault → Data
misrouted_value d i p fault =
    object (member (codes "channel") (count_value p.channel)
    (member (codes "code") (string (route_fault_code fault))
    (member (codes "deleted") (count_value p.deleted)
    (member (codes "flow") (string (flow_name d i))
    (member (codes "kind") (string (codes "misrouted"))
    (member (codes "text") (string (misrouted_words d i p fault)) no_members))))))

abbrev pub verdict_value : Declaration → Verdict → Data
verdict_value d (Misrouted i p fault) = misrouted_value d i p fault
verdict_value d (Cyclic cycle) = cyclic_value d cycle
verdict_value d (Free contents) = free_value d contents
