-- The least number of a list that passes a test.
use Rattle.std.specs.Prelude.{◌≡◌, ◌↔◌, ℕ, ◌≤◌, min, Bool, true, List, [], ◌∷◌, Contains, Option, Some, None, if◌then◌else◌}

-- the lesser of two numbers, of those that are there
abbrev pub lesser : Option ℕ → Option ℕ → Option ℕ
lesser None o = o
lesser (Some x) None = Some x
lesser (Some x) (Some y) = Some (min x y)

-- the least number of the list that passes
abbrev pub least : (ℕ → Bool) → List ℕ → Option ℕ
least test [] = None
least test (x ∷ xs) = lesser (if test x then Some x else None) (least test xs)

-- x is in the list and passes, and no lesser number of the list does
pub record IsLeast (test : ℕ → Bool) (xs : List ℕ) (x : ℕ) : Type 0 where
  pub listed : Contains xs x
  pub passes : test x ≡ true
  pub least : (y : ℕ) → Contains xs y → test y ≡ true → x ≤ y

abbrev pub LeastIsLeast : Type 0
LeastIsLeast = (test : ℕ → Bool) (xs : List ℕ) (x : ℕ) → (least test xs ≡ Some x) ↔ IsLeast test xs x
