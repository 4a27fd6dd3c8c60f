-- The text of `route` (this project's choice).
use Rattle.std.specs.Prelude.{ℕ, List, [], ◌∷◌, ◌++◌, codes, flat_map, Option, Some, None}
use Rattle.std.specs.Fmt.{decimal}
use Rattle.sw_config.specs.Entries.{Declaration}
use Rattle.sw_flow.specs.declared.place.Place.{Place}
use Rattle.sw_flow.specs.declared.fault.RouteFault.{RouteFault}
use Rattle.sw_output.specs.Lines.{line}
use Rattle.sw_output.specs.ChannelTexts.{channel_text}
use Rattle.sw_output.specs.FlowTexts.{flow_name, route_fault_text}

-- a place: the channel's number, how many address bytes are deleted there, and the channel's ends
abbrev pub place_line : Declaration → Place → List ℕ
place_line d p = line (codes "place" ∷ decimal p.channel ∷ decimal p.deleted ∷ channel_text d p.channel ∷ [])

-- no place has a fault, or a place with its fault
abbrev pub outcome_line : Option (Place × RouteFault) → List ℕ
outcome_line None = line (codes "routed" ∷ [])
outcome_line (Some (p, fault)) = line (codes "misrouted" ∷ decimal p.channel ∷ decimal p.deleted ∷ route_fault_text fault ∷ [])

abbrev pub outcome_status : Option (Place × RouteFault) → ℕ
outcome_status None = 0
outcome_status (Some fault) = 1

-- the name of the flow of that number, its places, and the fault of one of them, if there is one
abbrev pub route_text : Declaration → ℕ → List Place → Option (Place × RouteFault) → List ℕ
route_text d flow places fault = line (codes "flow" ∷ flow_name d flow ∷ []) ++ (flat_map (place_line d) places ++ outcome_line fault)
