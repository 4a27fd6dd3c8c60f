-- Places as numbers, as the walk has them: the place on channel c with k address bytes deleted is c * w + k, where w is one more
-- than the address is long.
use Rattle.std.specs.Prelude.{ℕ, ◌+◌, ◌*◌, ◌/◌, ◌%◌, nat_lt, List, [], length, map, filter_map, Option, Some, None, if◌then◌else◌}
use Rattle.std.specs.List.{range_with_len}
use Rattle.sw_config.specs.PlaceEnd.{PlaceEnd}
use Rattle.sw_config.specs.PlaceEnd.TheVariants.{Node, Switch}
use Rattle.sw_config.specs.Look.{Look}
use Rattle.sw_config.specs.Entries.{FlowEntry, Declaration}
use Rattle.sw_flow.specs.declared.place.Place.{Place}
use Rattle.sw_flow.specs.Places.{ends_of, end_of, look_after, deleted_behind}
use Rattle.sw_flow.specs.Faults.{output_at}

abbrev pub width : FlowEntry → ℕ
width f = length f.address + 1

-- how many numbers there are
abbrev pub number_bound : Declaration → FlowEntry → ℕ
number_bound d f = length (ends_of d) * width f

abbrev pub place_of : FlowEntry → ℕ → Place
place_of f n = record { channel = n / width f; deleted = n % width f }

-- the channels that the look names at the ports of switch s below n, in the order of the ports
abbrev pub outputs_below : List PlaceEnd → ℕ → Look → ℕ → List ℕ
outputs_below ends s look n = filter_map (output_at ends s look) (range_with_len 0 n)

unfoldable pub outputs : List PlaceEnd → ℕ → Look → List ℕ
outputs ends s look = outputs_below ends s look 32

-- what follows behind switch s, where k address bytes are deleted
abbrev pub next_at_switch : Declaration → FlowEntry → ℕ → ℕ → List ℕ
next_at_switch d f s k =
    if nat_lt k (length f.address) then map (λ e. e * width f + deleted_behind (look_after d f s k) k) (outputs (ends_of d) s (look_after d f s k)) else []

abbrev pub next_at_end : Declaration → FlowEntry → ℕ → Option PlaceEnd → List ℕ
next_at_end d f k None = []
next_at_end d f k (Some (Switch s p)) = next_at_switch d f s k
next_at_end d f k (Some (Node n)) = []

-- the places that follow a place
abbrev pub next_numbers : Declaration → FlowEntry → ℕ → List ℕ
next_numbers d f n = next_at_end d f (n % width f) (end_of d (n / width f))
