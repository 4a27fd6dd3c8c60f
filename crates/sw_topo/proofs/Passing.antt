-- A loop over a list that ends at the first element that passes a test.
use Rattle.std.proofs.Common.{◌≡◌, ℕ, zero, suc, ◌+◌, ◌<◌, ◌≤◌, ◌||◌, Bool, true, false, List, [], ◌∷◌, take, length, get_or, Some, None, refl, sym, ap, ◌∙◌, arith}
use Rattle.std.specs.Prelude.{position}
use Rattle.std.specs.List.{list_any, position_or_len}
use Rattle.std.proofs.lemmas.Bool.{lt-ltb, le-ltb, or_parts}
use Rattle.std.proofs.lemmas.List.{take_all}
use Rattle.std.proofs.lemmas.List.Folds.{list_any_at, list_any_more}
use Rattle.std.proofs.lemmas.List.Sums.{position_or_len_is}

module _ {X : Type 0} (p : X → Bool) where
  -- the element that is read passes
  pub one_read : (xs : List X) (i : ℕ) (x : X) (b : Bool) → i < length xs → x ≡ get_or xs i x → b ≡ p x → b ≡ true → list_any p xs ≡ true
  one_read xs i x b lt at is passes = list_any_at p xs i x lt (ap p (sym at) ∙ sym is ∙ passes)

  -- it does not, as none before it
  pub none_read : (xs : List X) (i : ℕ) (x : X) (b : Bool) → i < length xs → x ≡ get_or xs i x → list_any p (take i xs) ≡ false → b ≡ p x → b ≡ false
      → list_any p (take (i + 1) xs) ≡ false
  none_read xs i x b lt at none is fails = list_any_more p xs i x lt ∙ (λ t. none t || (ap p (sym at) ∙ sym is ∙ fails) t)

  none_at : (xs : List X) (i k : ℕ) (d : X) → list_any p (take i xs) ≡ false → k < i → i ≤ length xs → p (get_or xs k d) ≡ false
  none_at [] i k d none lt le = absurd (omega arith)
  none_at (x ∷ xs) zero k d none lt le = absurd (omega arith)
  none_at (x ∷ xs) (suc i) zero d none lt le = (or_parts (p x) (list_any p (take i xs)) none).0
  none_at (x ∷ xs) (suc i) (suc k) d none lt le = none_at xs i k d (or_parts (p x) (list_any p (take i xs)) none).1 (omega arith) (omega arith)

  -- the first that passes is at its place
  pub found_first : (xs : List X) (i : ℕ) (x : X) (b : Bool) → i < length xs → x ≡ get_or xs i x → list_any p (take i xs) ≡ false → b ≡ p x → b ≡ true → position p xs ≡ Some i
  found_first xs i x b lt at none is passes =
      let e : position_or_len p xs ≡ i = position_or_len_is p xs i x (omega arith) (λ k below. none_at xs i k x none below (omega arith)) (λ within. ap p (sym at) ∙ sym is ∙ passes) in
      rw (e, lt-ltb i (length xs) lt) refl

  none_found : (xs : List X) → list_any p xs ≡ false → position_or_len p xs ≡ length xs
  none_found [] none = refl
  none_found (x ∷ xs) none = let first = or_parts (p x) (list_any p xs) none in rw first.0 (omega (arith, none_found xs first.1))

  -- where none passes there is no place
  pub not_found : (xs : List X) (i : ℕ) → length xs ≤ i → list_any p (take i xs) ≡ false → position p xs ≡ None
  not_found xs i past none =
      let e = none_found xs (sym (ap (list_any p) (take_all i xs past)) ∙ none) in
      rw (e, le-ltb (length xs) (length xs) (omega arith)) refl
