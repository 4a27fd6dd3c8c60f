-- A relation that is given by a row for each member.
use Rattle.std.specs.Prelude.{◌≡◌, ℕ, ◌<◌, ◌↔◌, All, Contains, List, [], length, Option, Some, None, slice_get, Vec}
use Rattle.std.specs.declared.alloc.Global.{Global}

abbrev pub items_of : Option (Vec ℕ Global) → List ℕ
items_of (Some v) = v.items
items_of None = []

-- what is listed for c; nothing where c is no member
abbrev pub row : List (Vec ℕ Global) → ℕ → List ℕ
row rows c = items_of (slice_get rows c)

-- d is listed as a successor of c
abbrev pub Leads : List (Vec ℕ Global) → ℕ → ℕ → Type 0
Leads rows c d = Contains (row rows c) d

-- c is listed as a predecessor of d
abbrev pub Precedes : List (Vec ℕ Global) → ℕ → ℕ → Type 0
Precedes rows c d = Contains (row rows d) c

-- only members are listed
abbrev pub IsGraph : List (Vec ℕ Global) → Type 0
IsGraph rows = All (λ v. All (λ d. d < length rows) v.items) rows

-- the rows of predecessors of the same relation
pub record IsReversed (successors predecessors : List (Vec ℕ Global)) : Type 0 where
  pub size : length predecessors ≡ length successors
  pub each : (c d : ℕ) → Leads successors c d ↔ Precedes predecessors c d
