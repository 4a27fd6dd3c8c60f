-- Where channels stand in a list.
use Rattle.std.specs.Prelude.{◌≡◌, ℕ, ◌<◌, ◌↔◌, Contains, List, Some, Vec, slice_get}
use Rattle.std.specs.declared.alloc.Global.{Global}
use Rattle.sw_graph.specs.Rows.{row}

-- the row of each channel has those of the first `count` positions at which it stands in the list
abbrev pub ArePositions : List ℕ → ℕ → List (Vec ℕ Global) → Type 0
ArePositions channels count rows = (c i : ℕ) → Contains (row rows c) i ↔ ((i < count) × (slice_get channels i ≡ Some c))
