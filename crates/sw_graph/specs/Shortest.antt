-- Shortest cycles through a number.
use Rattle.std.specs.Prelude.{◌≡◌, ℕ, suc, ◌<◌, ◌≤◌, List, length, slice_index}
use Rattle.sw_graph.specs.Cycles.{IsLeast, Walks}
use Rattle.sw_graph.specs.Levels.{Chain}

-- n steps, one or more, lead from c to d, and no fewer do, but for none at all
pub record IsFewest (dep : ℕ → ℕ → Type 0) (c d n : ℕ) : Type 0 where
  pub some : 0 < n
  pub leads : Chain dep n c d
  pub fewest : (i : ℕ) → Chain dep (suc i) c d → n ≤ suc i

-- d is the least of the numbers to which a shortest way from c to the goal goes on
abbrev pub IsNext : (ℕ → ℕ → Type 0) → ℕ → ℕ → ℕ → Type 0
IsNext dep goal c d = IsLeast (λ e. (n : ℕ) × IsFewest dep c goal (suc n) × dep c e × Chain dep n e goal) d

-- the shortest cycle to show through the start: so many members, each followed by the least on a shortest way back
pub record IsShortestFrom (dep : ℕ → ℕ → Type 0) (start count : ℕ) (cycle : List ℕ) : Type 0 where
  pub size : length cycle ≡ count
  pub begins : slice_index cycle 0 ≡ start
  pub goes : Walks (IsNext dep start) cycle start
