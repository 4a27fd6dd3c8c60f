-- What lies between the cells of a network: the wires of its channels, and the FCTs that are under way (ECSS-E-ST-50-12C, data link layer: flow control).
use Rattle.std.specs.Prelude.{List, [], length, replicate, slice_index, slice_index_or, slice_set, ℕ, ◌≡◌}
use Rattle.sw_char.specs.declared.nchar.NChar.{NChar}

-- by channel: the characters on its wire, and how many FCTs are under way for it
pub record Between : Type 0 where
  pub wires : List (List NChar)
  pub fcts : List ℕ

-- both are of as many channels
pub record IsBetween (b : Between) : Type 0 where
  pub same : length b.fcts ≡ length b.wires

abbrev pub between_of : List (List NChar) → List ℕ → Between
between_of wires fcts = record { wires = wires; fcts = fcts }

abbrev pub empty_between : ℕ → Between
empty_between channels = between_of (replicate channels []) (replicate channels 0)

abbrev pub wire_at : Between → ℕ → List NChar
wire_at b c = slice_index_or b.wires c []

abbrev pub fcts_at : Between → ℕ → ℕ
fcts_at b c = slice_index b.fcts c

abbrev pub with_wire : Between → ℕ → List NChar → Between
with_wire b c wire = record b { wires = slice_set b.wires c wire }

abbrev pub with_fcts : Between → ℕ → ℕ → Between
with_fcts b c fcts = record b { fcts = slice_set b.fcts c fcts }
