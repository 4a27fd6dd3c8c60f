-- What may be wrong with a place of a flow.
use Rattle.std.specs.Prelude.{◌≡◌, ℕ, ◌-◌, ◌^◌, ◌==◌, Bool, nat_lt, bit_and, List, [], ◌∷◌, length, Option, Some, None, is_some, option_map, if◌then◌else◌}
use Rattle.std.specs.List.{range_with_len, list_any}
use Rattle.sw_config.specs.PlaceEnd.{PlaceEnd}
use Rattle.sw_config.specs.PlaceEnd.TheVariants.{Node, Switch}
use Rattle.sw_config.specs.Wiring.{out_of}
use Rattle.sw_config.specs.Checked.{first_of}
use Rattle.sw_config.specs.Look.{Look}
use Rattle.sw_config.specs.Entries.{FlowEntry, Declaration}
use Rattle.sw_flow.specs.declared.fault.RouteFault.{RouteFault}
use Rattle.sw_flow.specs.declared.fault.RouteFault.TheVariants.{AddressEnds, NoRoute, WrongNode, WrongLeft}
use Rattle.sw_flow.specs.declared.place.Place.{Place}
use Rattle.sw_flow.specs.Places.{ends_of, end_of, look_after, IsPlace}

-- the channel that starts at port p of switch s, if the look names the port
abbrev pub output_at : List PlaceEnd → ℕ → Look → ℕ → Option ℕ
output_at ends s look p = if bit_and look.ports (2 ^ p) == 0 then None else out_of ends s p

-- the look names a port, 0 to 31, of switch s at which a channel starts
unfoldable pub has_output : List PlaceEnd → ℕ → Look → Bool
has_output ends s look = list_any (λ p. is_some (output_at ends s look p)) (range_with_len 0 32)

-- the fault at switch s, where k address bytes are deleted
abbrev pub fault_at_switch : Declaration → FlowEntry → ℕ → ℕ → Option RouteFault
fault_at_switch d f s k =
    if nat_lt k (length f.address) then (if has_output (ends_of d) s (look_after d f s k) then None else Some NoRoute) else Some AddressEnds

-- the fault at node n, where k address bytes are deleted
abbrev pub fault_at_node : FlowEntry → ℕ → ℕ → Option RouteFault
fault_at_node f n k =
    if n == f.to then (if length f.address - k == f.left then None else Some WrongLeft) else Some WrongNode

abbrev pub fault_at_end : Declaration → FlowEntry → ℕ → Option PlaceEnd → Option RouteFault
fault_at_end d f k None = None
fault_at_end d f k (Some (Switch s p)) = fault_at_switch d f s k
fault_at_end d f k (Some (Node n)) = fault_at_node f n k

-- the fault of a place, on channel c with k address bytes deleted
abbrev pub fault_of : Declaration → FlowEntry → ℕ → ℕ → Option RouteFault
fault_of d f c k = fault_at_end d f k (end_of d c)

-- a flow is well routed where no place of it has a fault
abbrev pub IsWellRouted : Declaration → FlowEntry → Type 0
IsWellRouted d f = (c k : ℕ) → IsPlace d f c k → fault_of d f c k ≡ None

-- the place with its fault, if it has one
abbrev pub with_fault : Declaration → FlowEntry → Place → Option (Place × RouteFault)
with_fault d f p = option_map (λ fault. (p, fault)) (fault_of d f p.channel p.deleted)

-- the first of the places that has a fault, with it
abbrev pub first_fault_of : Declaration → FlowEntry → List Place → Option (Place × RouteFault)
first_fault_of d f [] = None
first_fault_of d f (p ∷ ps) = first_of (with_fault d f p) (first_fault_of d f ps)
