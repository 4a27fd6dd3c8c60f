-- The cycle to show of a relation that has one: which of all its cycles, and where it begins.
use Rattle.std.specs.Prelude.{◌≡◌, ℕ, suc, ◌<◌, ◌≤◌, ◌==◌, ◌++◌, All, List, [], ◌∷◌, count_by, length, reverse, slice_index}
use Rattle.sw_graph.specs.Levels.{Chain}

-- c lies on a cycle, or a chain reaches it from one
abbrev pub IsBehindCycle : (ℕ → ℕ → Type 0) → ℕ → Type 0
IsBehindCycle dep c = (b : ℕ) × (m : ℕ) × (n : ℕ) × Chain dep (suc m) b b × Chain dep n b c

-- c is the least number with the property
pub record IsLeast (P : ℕ → Type 0) (c : ℕ) : Type 0 where
  pub member : P c
  pub least : (d : ℕ) → P d → c ≤ d

-- p is the least predecessor of c among the members behind a cycle
abbrev pub IsLeastPredecessor : (ℕ → ℕ → Type 0) → ℕ → ℕ → Type 0
IsLeastPredecessor dep c p = IsLeast (λ b. IsBehindCycle dep b × dep b c) p

-- each member is followed by a next one, and the last by `end`
abbrev pub Walks : (ℕ → ℕ → Type 0) → List ℕ → ℕ → Type 0
Walks next [] end = Unit {0}
Walks next (c ∷ []) end = next c end
Walks next (c ∷ d ∷ rest) end = next c d × Walks next (d ∷ rest) end

-- the cycle runs against the walk, from its least member on
pub record IsTurned (walked cycle : List ℕ) : Type 0 where
  pub early : List ℕ
  pub late : List ℕ
  pub direction : reverse walked ≡ early ++ late
  pub turned : cycle ≡ late ++ early
  pub least : All (λ c. slice_index cycle 0 ≤ c) cycle

-- The walk back begins at the least member behind a cycle and goes each time to the least predecessor,
-- until a member comes again. The cycle is what was walked since that member.
pub record IsShownCycle (dep : ℕ → ℕ → Type 0) (cycle : List ℕ) : Type 0 where
  pub before : List ℕ
  pub between : List ℕ
  pub some : 0 < length between
  pub begins : IsLeast (IsBehindCycle dep) (slice_index (before ++ between) 0)
  pub goes_back : Walks (IsLeastPredecessor dep) (before ++ between) (slice_index between 0)
  pub once : (c : ℕ) → count_by (λ d. d == c) (before ++ between) ≤ 1
  pub shown : IsTurned between cycle
