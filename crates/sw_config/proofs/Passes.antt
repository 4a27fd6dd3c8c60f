-- Whether one of a list passes a test: one does, or none up to one element more.
use Rattle.std.proofs.Common.{◌≡◌, ◌∙◌, ℕ, ◌+◌, ◌<◌, ◌≤◌, ◌||◌, Bool, true, false, List, ◌++◌, Option, Some, ap, get_or, is_some, length, position, sym, take}
use Rattle.std.specs.Prelude.{slice_get}
use Rattle.std.specs.List.{list_any}
use Rattle.std.proofs.lemmas.List.{take_all}
use Rattle.std.proofs.lemmas.List.Folds.{list_any-append, list_any_at, list_any_more}
use Rattle.std.proofs.lemmas.Option.{get_or_from_slice_get, slice_get_within}
use Rattle.sw_config.proofs.Positions.{position-any}

module _ {A : Type 0} (test : A → Bool) where
  -- where the element is read
  pub one_read : (xs : List A) (i : ℕ) (x : A) (b : Bool) → i < length xs → x ≡ get_or xs i x → b ≡ test x → b ≡ true → true ≡ list_any test xs
  one_read xs i x b lt at is passes = sym (list_any_at test xs i x lt (ap test (sym at) ∙ sym is ∙ passes))

  pub none_read : (xs : List A) (i : ℕ) (x : A) (b : Bool) → i < length xs → x ≡ get_or xs i x → list_any test (take i xs) ≡ false → b ≡ test x → b ≡ false
      → list_any test (take (i + 1) xs) ≡ false
  none_read xs i x b lt at none is fails = list_any_more test xs i x lt ∙ (λ t. none t || (ap test (sym at) ∙ sym is ∙ fails) t)

  -- with one more, where each was read
  pub any_read : (xs : List A) (i : ℕ) (x : A) (before b : Bool) → i < length xs → x ≡ get_or xs i x → before ≡ list_any test (take i xs) → b ≡ test x
      → (before || b) ≡ list_any test (take (i + 1) xs)
  any_read xs i x before b lt at so_far is = (λ t. so_far t || (is ∙ ap test at) t) ∙ sym (list_any_more test xs i x lt)

  -- where all were read
  pub all_passed : (xs : List A) (i : ℕ) (b : Bool) → length xs ≤ i → b ≡ list_any test (take i xs) → b ≡ list_any test xs
  all_passed xs i b past so_far = so_far ∙ ap (list_any test) (take_all i xs past)

  -- where it is looked up
  pub one_passes : (xs : List A) (i : ℕ) (x : A) (b : Bool) → slice_get xs i ≡ Some x → b ≡ test x → b ≡ true → true ≡ list_any test xs
  one_passes xs i x b here = one_read xs i x b (slice_get_within xs i x here) (sym (get_or_from_slice_get xs i x x here))

  pub none_more : (xs : List A) (i : ℕ) (x : A) (b : Bool) → slice_get xs i ≡ Some x → list_any test (take i xs) ≡ false → b ≡ test x → b ≡ false
      → list_any test (take (i + 1) xs) ≡ false
  none_more xs i x b here = none_read xs i x b (slice_get_within xs i x here) (sym (get_or_from_slice_get xs i x x here))

  -- of two lists one is found in the first, or is looked for in the second
  pub in_first : (xs ys : List A) (found : Option ℕ) (b : Bool) → found ≡ position test xs → b ≡ is_some found → b ≡ true → b ≡ list_any test (xs ++ ys)
  in_first xs ys found b place is passes =
      let first : list_any test xs ≡ true = sym (position-any test xs) ∙ sym (ap is_some place) ∙ sym is ∙ passes in
      passes ∙ sym (list_any-append test xs ys ∙ ap (λ t. t || list_any test ys) first)

  pub in_second : (xs ys : List A) (found : Option ℕ) (b last : Bool) → found ≡ position test xs → b ≡ is_some found → b ≡ false → last ≡ list_any test ys
      → last ≡ list_any test (xs ++ ys)
  in_second xs ys found b last place is fails rest =
      let first : list_any test xs ≡ false = sym (position-any test xs) ∙ sym (ap is_some place) ∙ sym is ∙ fails in
      rest ∙ sym (list_any-append test xs ys ∙ ap (λ t. t || list_any test ys) first)
