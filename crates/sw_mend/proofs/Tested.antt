-- Tests of a list, one element more.
use Rattle.std.proofs.Common.{◌≡◌, ℕ, zero, suc, ◌+◌, Bool, true, false, ◌||◌, ◌&&◌, List, [], ◌∷◌, ◌++◌, take, get_or, Some, inl, inr, length, ◌<◌, ap, sym, arith, ◌∙◌}
use Rattle.std.specs.Prelude.{slice_get}
use Rattle.std.specs.List.{list_all, list_any}
use Rattle.std.specs.Option.{option_map_or}
use Rattle.std.proofs.lemmas.Bool.{cases_Bool}
use Rattle.std.proofs.lemmas.List.{take_more}
use Rattle.std.proofs.lemmas.List.Folds.{list_all-append, list_any_more}
use Rattle.std.proofs.lemmas.Option.{get_or_from_slice_get, slice_get_cases, slice_get_within}

module _ {A : Type 0} (test : A → Bool) where
  -- one more that does not pass
  pub none_more : (xs : List A) (i : ℕ) (x : A) → slice_get xs i ≡ Some x → list_any test (take i xs) ≡ false → test x ≡ false → list_any test (take (i + 1) xs) ≡ false
  none_more xs i x here before is =
      list_any_more test xs i x (slice_get_within xs i x here) ∙ ap (λ b. b || test (get_or xs i x)) before ∙ ap test (get_or_from_slice_get xs i x x here) ∙ is

  pub one_here : (xs : List A) (i : ℕ) (x : A) → slice_get xs i ≡ Some x → test x ≡ true → list_any test xs ≡ true
  one_here [] i x here is = absurd cc
  one_here (y ∷ xs) zero x here is = let same : y ≡ x = cc in ap (λ b. b || list_any test xs) (ap test same ∙ is)
  one_here (y ∷ xs) (suc i) x here is =
      elim (cases_Bool (test y)) [
        | inl passes ↦ ap (λ b. b || list_any test xs) passes
        | inr fails ↦ ap (λ b. b || list_any test xs) fails ∙ one_here xs i x here is
      ]

  -- one more that passes
  pub all_more : (xs : List A) (i : ℕ) (x : A) → slice_get xs i ≡ Some x → list_all test (take i xs) ≡ true → test x ≡ true → list_all test (take (i + 1) xs) ≡ true
  all_more xs i x here before is =
      let at : get_or xs i x ≡ x = get_or_from_slice_get xs i x x here in
      ap (list_all test) (take_more xs i x (slice_get_within xs i x here) ∙ ap (λ z. take i xs ++ z ∷ []) at) ∙ list_all-append test (take i xs) (x ∷ [])
      ∙ ap (λ b. b && (test x && true)) before ∙ ap (λ b. b && true) is

  pub not_all_here : (xs : List A) (i : ℕ) (x : A) → slice_get xs i ≡ Some x → test x ≡ false → list_all test xs ≡ false
  not_all_here [] i x here is = absurd cc
  not_all_here (y ∷ xs) zero x here is = let same : y ≡ x = cc in ap (λ b. b && list_all test xs) (ap test same ∙ is)
  not_all_here (y ∷ xs) (suc i) x here is =
      elim (cases_Bool (test y)) [
        | inl passes ↦ ap (λ b. b && list_all test xs) passes ∙ not_all_here xs i x here is
        | inr fails ↦ ap (λ b. b && list_all test xs) fails
      ]

  -- the same of an element that is looked up
  found_at : (xs : List A) (i : ℕ) (x : A) (b : Bool) → slice_get xs i ≡ Some x → option_map_or test (slice_get xs i) false ≡ b → test x ≡ b
  found_at xs i x b here is = sym (ap (λ o. option_map_or test o false) here) ∙ is

  pub any_at : (xs : List A) (i : ℕ) → i < length xs → option_map_or test (slice_get xs i) false ≡ true → list_any test xs ≡ true
  any_at xs i lt is =
      elim (slice_get_cases xs i).1 [
        | inl found ↦ one_here xs i found.0 found.2 (found_at xs i found.0 true found.2 is)
        | inr past ↦ absurd (omega (arith, past.0, lt))
      ]

  pub none_at : (xs : List A) (i : ℕ) → i < length xs → option_map_or test (slice_get xs i) false ≡ false → list_any test (take i xs) ≡ false → list_any test (take (i + 1) xs) ≡ false
  none_at xs i lt is before =
      elim (slice_get_cases xs i).1 [
        | inl found ↦ none_more xs i found.0 found.2 before (found_at xs i found.0 false found.2 is)
        | inr past ↦ absurd (omega (arith, past.0, lt))
      ]

  pub all_at : (xs : List A) (i : ℕ) → i < length xs → option_map_or test (slice_get xs i) false ≡ true → list_all test (take i xs) ≡ true → list_all test (take (i + 1) xs) ≡ true
  all_at xs i lt is before =
      elim (slice_get_cases xs i).1 [
        | inl found ↦ all_more xs i found.0 found.2 before (found_at xs i found.0 true found.2 is)
        | inr past ↦ absurd (omega (arith, past.0, lt))
      ]

  pub not_all_at : (xs : List A) (i : ℕ) → i < length xs → option_map_or test (slice_get xs i) false ≡ false → list_all test xs ≡ false
  not_all_at xs i lt is =
      elim (slice_get_cases xs i).1 [
        | inl found ↦ not_all_here xs i found.0 found.2 (found_at xs i found.0 false found.2 is)
        | inr past ↦ absurd (omega (arith, past.0, lt))
      ]
