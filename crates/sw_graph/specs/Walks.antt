-- The numbers that a walk has found so far, in the order in which it found them.
use Rattle.std.specs.Prelude.{◌≡◌, ◌≢◌, ◌<◌, ◌+◌, ℕ, Bool, false, not, ◌==◌, List, [], ◌∷◌, ◌++◌, length, count_by, filter, fold, All, AllPairs, slice_index_or, if◌then◌else◌}
use Rattle.std.specs.List.{list_any, range_with_len}

pub record Found : Type 0 where
  pub bound : ℕ
  pub numbers : List ℕ

-- the number is one of those
abbrev pub holds : List ℕ → ℕ → Bool
holds numbers n = list_any (λ m. m == n) numbers

-- the numbers, and this one behind them if it is new
abbrev pub with_number : List ℕ → ℕ → List ℕ
with_number numbers n = if holds numbers n then numbers else numbers ++ n ∷ []

-- the numbers, and those of the others that are new, each once
abbrev pub with_all : List ℕ → List ℕ → List ℕ
with_all numbers others = fold with_number numbers others

-- the numbers of the marks that are set, in rising order
abbrev pub marked : List Bool → List ℕ
marked marks = filter (λ n. slice_index_or marks n false) (range_with_len 0 (length marks))

-- each number is below the bound and there once, and the marks say which those are
pub record IsWalk (marks : List Bool) (numbers : List ℕ) : Type 0 where
  pub marked : (n : ℕ) → n < length marks → slice_index_or marks n false ≡ holds numbers n
  pub below : All (λ n. n < length marks) numbers
  pub once : AllPairs (λ m n. m ≢ n) numbers
  pub counted : count_by not marks + length numbers ≡ length marks
