-- The objects that stand for places of flows, and for what is wrong there (this project's choice).
use Rattle.std.specs.Prelude.{ℕ, List, [], ◌∷◌, codes}
use Rattle.std.specs.Fmt.{decimal}
use Rattle.serde_json.specs.Data.{Data, object, string, member, no_members}
use Rattle.sw_config.specs.Entries.{Declaration}
use Rattle.sw_flow.specs.declared.fault.RouteFault.{RouteFault}
use Rattle.sw_flow.specs.declared.fault.RouteFault.TheVariants.{AddressEnds, NoRoute, WrongNode, WrongLeft}
use Rattle.sw_flow.specs.declared.place.Place.{Place}
use Rattle.sw_json.specs.Simple.{count_value}
use Rattle.sw_output.specs.ChannelTexts.{start_text}
use Rattle.sw_output.specs.FlowTexts.{flow_name, route_fault_text}
use Rattle.sw_output.specs.Lines.{spaced}
use Rattle.sw_topo.specs.Wiring.{partner}

-- the end of a link at which channel c ends: the other channel of the link starts there
abbrev pub finish_text : Declaration → ℕ → List ℕ
finish_text d c = start_text d (partner c)

-- a flow's name
abbrev pub flow_name_value : Declaration → ℕ → Data
flow_name_value d i = string (flow_name d i)

-- a place: the channel's number, how many address bytes are deleted there, and the ends of a link at which the channel ends and starts
abbrev pub place_value : Declaration → Place → Data
place_value d p =
    object (member (codes "channel") (count_value p.channel)
    (member (codes "deleted") (count_value p.deleted)
    (member (codes "end") (string (finish_text d p.channel))
    (member (codes "start") (string (start_text d p.channel)) no_members))))

abbrev pub route_fault_code : RouteFault → List ℕ
route_fault_code AddressEnds = codes "M1"
route_fault_code NoRoute = codes "M2"
route_fault_code WrongNode = codes "M3"
route_fault_code WrongLeft = codes "M4"

-- a place with its fault, as `route` prints it
abbrev pub misrouted_place_words : Place → RouteFault → List ℕ
misrouted_place_words p fault = spaced (codes "misrouted" ∷ decimal p.channel ∷ decimal p.deleted ∷ route_fault_text fault ∷ [])

-- a place with its fault: the channel, the fault's code, how many address bytes are deleted there, and the line of `route`
abbrev pub misrouted_fault_value : Place → RouteFault → Data
misrouted_fault_value p fault =
    object (member (codes "channel") (count_value p.channel)
    (member (codes "code") (string (route_fault_code fault))
    (member (codes "deleted") (count_value p.deleted)
    (member (codes "text") (string (misrouted_place_words p fault)) no_members))))
