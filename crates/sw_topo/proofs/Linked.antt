-- The linked ports of a switch, as a loop collects them.
use Rattle.std.proofs.Common.{ℕ, ◌<◌, ◌↔◌, List, IsSome}
use Rattle.std.specs.Prelude.{IsBitSet}
use Rattle.sw_topo.specs.declared.place.PlaceEnd.{PlaceEnd}
use Rattle.sw_topo.specs.Wiring.{out_of}

-- the set has those ports of the switch below n at which a channel starts
abbrev pub IsLinkedBelow : List PlaceEnd → ℕ → ℕ → ℕ → Type 0
IsLinkedBelow ends s n set = (p : ℕ) → (IsBitSet set p ↔ ((p < n) × IsSome (out_of ends s p)))
