-- The order of places as an order of numbers.
use Rattle.std.specs.Prelude.{ℕ, ◌+◌, ◌*◌, Bool, false, List, slice_get}
use Rattle.std.specs.Option.{option_map_or}
use Rattle.sw_flow.specs.declared.place.Place.{Place}
use Rattle.sw_cert.specs.Refusals.{is_same}

-- places rise with their ranks, since at most 255 bytes are deleted
abbrev pub rank : Place → ℕ
rank p = 256 * p.channel + p.deleted

-- p is at that index of the list
abbrev pub is_at : List Place → ℕ → Place → Bool
is_at listed index p = option_map_or (is_same p) (slice_get listed index) false
