-- How places of flows and their faults are written (this project's choice).
use Rattle.std.specs.Prelude.{ℕ, List, [], ◌∷◌, codes, slice_get}
use Rattle.std.specs.Option.{option_map_or}
use Rattle.std.specs.Fmt.{decimal}
use Rattle.sw_config.specs.Entries.{Declaration, all_flows}
use Rattle.sw_cycle.specs.Place.{Place}
use Rattle.sw_cycle.specs.RouteFault.{RouteFault}
use Rattle.sw_cycle.specs.RouteFault.TheVariants.{AddressEnds, NoRoute, WrongNode, WrongLeft}
use Rattle.sw_output.specs.Lines.{spaced}

-- a flow's name by its number; reply flows have numbers and names too
abbrev pub flow_name : Declaration → ℕ → List ℕ
flow_name d i = option_map_or (λ f. f.name) (slice_get (all_flows d) i) []

-- a place of a flow: the flow's name, the channel's number, and how many address bytes are deleted there
abbrev pub place_words : Declaration → ℕ → Place → List ℕ
place_words d i p = spaced (flow_name d i ∷ decimal p.channel ∷ decimal p.deleted ∷ [])

abbrev pub route_fault_text : RouteFault → List ℕ
route_fault_text AddressEnds = codes "M1 AddressEnds"
route_fault_text NoRoute = codes "M2 NoRoute"
route_fault_text WrongNode = codes "M3 WrongNode"
route_fault_text WrongLeft = codes "M4 WrongLeft"
