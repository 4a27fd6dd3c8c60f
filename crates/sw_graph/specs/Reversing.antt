-- What is added to rows.
use Rattle.std.specs.Prelude.{◌≡◌, ◌≢◌, ℕ, ◌<◌, ◌⊎◌, ◌↔◌, Contains, List, length, Vec}
use Rattle.std.specs.declared.alloc.Global.{Global}
use Rattle.sw_graph.specs.Rows.{Leads, Precedes, row}

-- c is added to the row of each of the members
pub record AreAdded (members : List ℕ) (c : ℕ) (rows rows2 : List (Vec ℕ Global)) : Type 0 where
  pub size : length rows2 ≡ length rows
  pub each : (b d : ℕ) → Precedes rows2 b d ↔ (Precedes rows b d ⊎ (Contains members d × (b ≡ c)))

-- the row at that place is as is said, and the others are as they were
pub record IsRowSet (rows : List (Vec ℕ Global)) (place : ℕ) (numbers : List ℕ) (rows2 : List (Vec ℕ Global)) : Type 0 where
  pub size : length rows2 ≡ length rows
  pub set : row rows2 place ≡ numbers
  pub others : (other : ℕ) → other ≢ place → row rows2 other ≡ row rows other

-- the rows have what the first `count` rows of successors say
pub record AreBegun (successors : List (Vec ℕ Global)) (count : ℕ) (predecessors : List (Vec ℕ Global)) : Type 0 where
  pub size : length predecessors ≡ length successors
  pub each : (c d : ℕ) → Precedes predecessors c d ↔ ((c < count) × Leads successors c d)
