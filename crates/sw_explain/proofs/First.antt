-- The first element that passes a test, where so many before it don't.
use Rattle.std.proofs.Common.{◌≡◌, ◌∙◌, ◌+◌, ◌<◌, ◌≤◌, ℕ, List, Bool, true, false, get_or, length, Some, None, inl, inr, ap, refl, sym, arith}
use Rattle.std.specs.Prelude.{position}
use Rattle.std.specs.List.{list_any, position_or_len}
use Rattle.std.proofs.lemmas.Bool.{cases_lt, le-ltb, lt-ltb}
use Rattle.std.proofs.lemmas.List.{get_or_default}
use Rattle.std.proofs.lemmas.List.Folds.{list_any_at, list_any_none}
use Rattle.std.proofs.lemmas.List.Sums.{position_or_len_is}

-- none of so many passes
abbrev pub NonePasses : {A : Type 0} → (A → Bool) → List A → ℕ → Type 0
NonePasses {A} test xs count = (k : ℕ) (d : A) → k < count → test (get_or xs k d) ≡ false

module _ {A : Type 0} (test : A → Bool) (xs : List A) (x : A) (i : ℕ) (b : Bool) (lt : i < length xs) (is : x ≡ get_or xs i x) (told : b ≡ test x) where
  pub still_none : NonePasses test xs i → b ≡ false → NonePasses test xs (i + 1)
  still_none before fails = λ k d below.
      elim (cases_lt k i) [
        | inl low ↦ before k d low
        | inr high ↦ let same : k ≡ i = omega arith in rw (same, get_or_default xs i d x lt, sym is) (sym told ∙ fails)
      ]

  -- one of all, and the place of the first
  pub one_passes : b ≡ true → list_any test xs ≡ true
  one_passes passes = list_any_at test xs i x lt (ap test (sym is) ∙ sym told ∙ passes)

  pub first_at : NonePasses test xs i → b ≡ true → position test xs ≡ Some i
  first_at before passes =
      let at : position_or_len test xs ≡ i =
      position_or_len_is test xs i x (omega (arith, lt)) (λ k below. before k x below) (λ within. ap test (sym is) ∙ sym told ∙ passes) in
      rw (at, lt-ltb i (length xs) lt) refl

-- none of all
module _ {A : Type 0} (test : A → Bool) (xs : List A) (i : ℕ) (past : length xs ≤ i) (none : NonePasses test xs i) where
  pub none_passes : list_any test xs ≡ false
  none_passes = list_any_none test xs (λ k d lt. none k d (omega (arith, lt, past)))

  pub no_first : A → position test xs ≡ None
  no_first d =
      let at : position_or_len test xs ≡ length xs =
      position_or_len_is test xs (length xs) d (omega arith) (λ k below. none k d (omega (arith, below, past))) (λ within. absurd (omega (arith, within))) in
      rw (at, le-ltb (length xs) (length xs) (omega arith)) refl
