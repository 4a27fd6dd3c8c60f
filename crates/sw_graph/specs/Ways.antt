-- Ways from number to number over steps.
use Rattle.std.specs.Prelude.{◌≡◌, ℕ, List, [], ◌∷◌, Contains, Option, Some, None, slice_get}
use Rattle.sw_graph.specs.Reached.{Reached}

-- from each number of the list a step leads to the next one, and the last is the goal
abbrev pub EndsAt : (ℕ → List ℕ) → ℕ → List ℕ → Type 0
EndsAt next goal [] = ⊥
EndsAt next goal (n ∷ []) = n ≡ goal
EndsAt next goal (n ∷ m ∷ more) = Contains (next n) m × EndsAt next goal (m ∷ more)

-- the list goes from the start over steps to the goal
pub record IsWay (next : ℕ → List ℕ) (start goal : ℕ) (way : List ℕ) : Type 0 where
  pub begins : slice_get way 0 ≡ Some start
  pub goes : EndsAt next goal way

-- a way, or none where the goal is not reached
abbrev pub IsWayIfReached : (ℕ → List ℕ) → ℕ → ℕ → Option (List ℕ) → Type 0
IsWayIfReached next start goal (Some way) = IsWay next start goal way
IsWayIfReached next start goal None = Reached next start goal → ⊥
