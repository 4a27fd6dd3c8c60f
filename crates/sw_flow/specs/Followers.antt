-- The places that follow a place, as a list.
use Rattle.std.specs.Prelude.{ℕ, nat_lt, List, [], map, filter_map, length, Option, Some, None, if◌then◌else◌}
use Rattle.sw_config.specs.PlaceEnd.{PlaceEnd}
use Rattle.sw_config.specs.PlaceEnd.TheVariants.{Node, Switch}
use Rattle.sw_config.specs.Wiring.{out_of}
use Rattle.sw_config.specs.Ports.{ports_of}
use Rattle.sw_config.specs.Entries.{FlowEntry, Declaration}
use Rattle.sw_flow.specs.declared.place.Place.{Place}
use Rattle.sw_flow.specs.Places.{ends_of, end_of, look_after, deleted_behind}

-- the channels that start at ports of this set at switch s, in the order of the ports
abbrev pub outputs_of : List PlaceEnd → ℕ → ℕ → List ℕ
outputs_of ends s ports = filter_map (out_of ends s) (ports_of ports)

-- the places on these channels with k address bytes deleted
abbrev pub places_on : ℕ → List ℕ → List Place
places_on k channels = map (λ e. record { channel = e; deleted = k }) channels

-- the places behind switch s, where packets arrive with k address bytes deleted: one for each port that has a link and that the
-- leading byte names, none where no byte is left
abbrev pub followers_at_switch : Declaration → FlowEntry → ℕ → ℕ → List Place
followers_at_switch d f s k =
    if nat_lt k (length f.address) then places_on (deleted_behind (look_after d f s k) k) (outputs_of (ends_of d) s (look_after d f s k).ports) else []

abbrev pub followers_at_end : Declaration → FlowEntry → ℕ → Option PlaceEnd → List Place
followers_at_end d f k None = []
followers_at_end d f k (Some (Node n)) = []
followers_at_end d f k (Some (Switch s p)) = followers_at_switch d f s k

-- the places that follow the one on channel c with k address bytes deleted, in the order of the ports that lead to them
unfoldable pub followers_of : Declaration → FlowEntry → ℕ → ℕ → List Place
followers_of d f c k = followers_at_end d f k (end_of d c)
