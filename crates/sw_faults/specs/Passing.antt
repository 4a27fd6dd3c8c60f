-- What is asked of an entry (this project's choice).
use Rattle.std.specs.Prelude.{ℕ, Bool, false, List, ◌&&◌, ◌||◌, ◌==◌, nat_le}
use Rattle.std.specs.Option.{option_map_or}
use Rattle.std.specs.Str.{bytes_eq}
use Rattle.toml.specs.Data.{Members}
use Rattle.sw_text.specs.declared.keys.Key.{Key}
use Rattle.sw_text.specs.declared.keys.Key.TheVariants.{A, APort, B, BPort, Name}
use Rattle.sw_faults.specs.declared.passing.Test.{Test}
use Rattle.sw_faults.specs.declared.passing.Test.TheVariants.{Named, IsAt, HasPort, Overlaps}
use Rattle.sw_faults.specs.Entries.{number_in, range_in, text_in}

-- this text stands at a key
abbrev pub has_text : Key → List ℕ → Members → Bool
has_text key text table = option_map_or (λ found. bytes_eq found text) (text_in key table) false

-- this port stands at a key
abbrev pub has_number : Key → ℕ → Members → Bool
has_number key port table = option_map_or (λ found. found == port) (number_in key 0 31 table) false

-- the entry has this name
abbrev pub is_named : List ℕ → Members → Bool
is_named name entry = has_text Name name entry

-- an end of a link is at the unit of this name
abbrev pub is_at : List ℕ → Members → Bool
is_at name link = has_text A name link || has_text B name link

-- an end of a link is at this port of the switch of this name
abbrev pub has_end : List ℕ → ℕ → Members → Bool
has_end name port link = (has_text A name link && has_number APort port link) || (has_text B name link && has_number BPort port link)

-- an entry of a routing table is for an address from the first to the last
abbrev pub overlaps : ℕ → ℕ → Members → Bool
overlaps first last route = option_map_or (λ range. nat_le first range.1 && nat_le range.0 last) (range_in route) false

abbrev pub passes : Test → Members → Bool
passes (Named name) = is_named name.now
passes (IsAt name) = is_at name.now
passes (HasPort name port) = has_end name.now port
passes (Overlaps first last) = overlaps first last
