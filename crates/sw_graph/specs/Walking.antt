-- Words for the walk back.
use Rattle.std.specs.Prelude.{◌≡◌, ℕ, ◌<◌, ◌≤◌, ◌==◌, ◌++◌, Bool, Contains, false, min, Option, Some, None, List, [], ◌∷◌, count_by, length, slice_index, true, Vec}
use Rattle.std.specs.declared.alloc.Global.{Global}
use Rattle.sw_graph.specs.Cycles.{Walks}
use Rattle.sw_graph.specs.Rounds.{AllDone, is_marked}
use Rattle.sw_graph.specs.Rows.{Precedes, row}

-- how often c stands in the list
abbrev pub times : List ℕ → ℕ → ℕ
times xs c = count_by (λ e. e == c) xs

-- the least of the listed members that is not done
pub record IsLeastLeft (members : List ℕ) (done : List Bool) (c : ℕ) : Type 0 where
  pub listed : Contains members c
  pub left : is_marked done c ≡ false
  pub least : (d : ℕ) → Contains members d → is_marked done d ≡ false → c ≤ d

abbrev pub lesser : Option ℕ → ℕ → ℕ
lesser None c = c
lesser (Some d) c = min d c

-- what the least of the listed members that is not done is, if there is one
abbrev pub IsLeastOf : List ℕ → List Bool → Option ℕ → Type 0
IsLeastOf members done None = AllDone done members
IsLeastOf members done (Some c) = IsLeastLeft members done c

-- each member that is not done has a predecessor that is not done
abbrev pub GoesOn : List (Vec ℕ Global) → List Bool → Type 0
GoesOn predecessors done = (d : ℕ) → d < length predecessors → is_marked done d ≡ false → (c : ℕ) × Precedes predecessors c d × (is_marked done c ≡ false)

-- the walk from start, each time to the least predecessor that is not done, until a member comes again
pub record IsWalk (predecessors : List (Vec ℕ Global)) (done : List Bool) (start : ℕ) (path : List ℕ) (again : ℕ) : Type 0 where
  pub begins : slice_index (path ++ again ∷ []) 0 ≡ start
  pub walks : Walks (λ d c. IsLeastLeft (row predecessors d) done c) path again
  pub once : (c : ℕ) → times path c ≤ 1
  pub comes_again : 0 < times path again

-- the number at i is the least of all
abbrev pub IsLowest : List ℕ → ℕ → Type 0
IsLowest xs i = (i < length xs) × ((k : ℕ) → k < length xs → slice_index xs i ≤ slice_index xs k)

-- the least member that is not done
pub record IsFirstLeft (done : List Bool) (c : ℕ) : Type 0 where
  pub inside : c < length done
  pub left : is_marked done c ≡ false
  pub before : (d : ℕ) → d < c → is_marked done d ≡ true

-- what a walk has since the member that comes again
pub record IsSince (path : List ℕ) (again : ℕ) (between : List ℕ) : Type 0 where
  pub before : List ℕ
  pub parts : before ++ between ≡ path
  pub some : 0 < length between
  pub begins : slice_index between 0 ≡ again
