-- What steps lead to.
use Rattle.std.specs.Prelude.{ℕ, List, Contains, ◌↔◌}
use Rattle.std.specs.List.Sorted.{IsStrictlyIncreasing}

-- the least set of numbers that holds the start, and with each number those that a step from it leads to
pub data Reached (next : ℕ → List ℕ) (start : ℕ) : ℕ → Type 0 where
  begin : Reached next start start
  step : {n m : ℕ} → Reached next start n → Contains (next n) m → Reached next start m

-- the list has the numbers of the set, and no others, in rising order
pub record IsListing (P : ℕ → Type 0) (numbers : List ℕ) : Type 0 where
  pub rising : IsStrictlyIncreasing numbers
  pub member : (n : ℕ) → Contains numbers n ↔ P n
