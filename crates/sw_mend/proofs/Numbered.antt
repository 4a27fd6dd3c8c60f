-- What is made of elements by their numbers, one element more.
use Rattle.std.proofs.Common.{◌≡◌, ℕ, zero, suc, ◌+◌, ◌<◌, ◌≤◌, List, [], ◌∷◌, ◌++◌, length, take, get_or, inl, inr, Some, refl, sym, ap, ◌∙◌, arith, append-nil, append_assoc}
use Rattle.std.specs.Prelude.{slice_get}
use Rattle.std.specs.Option.{option_map_or}
use Rattle.std.proofs.lemmas.List.{take_all}
use Rattle.std.proofs.lemmas.Option.{slice_get_cases, slice_get_read}
use Rattle.sw_mend.specs.Changes.{by_number, made_at}

module _ {A B : Type 0} (make : ℕ → A → List B) where
  one_from : (n m i : ℕ) (xs : List A) (x : A) → n + i ≡ m → slice_get xs i ≡ Some x → by_number make n (take (suc i) xs) ≡ by_number make n (take i xs) ++ make m x
  one_from n m i [] x is here = absurd cc
  one_from n m zero (y ∷ xs) x is here =
      let first : n ≡ m = omega arith in
      let same : y ≡ x = cc in
      append-nil (make n y) ∙ ap (λ k. make k y) first ∙ ap (make m) same
  one_from n m (suc i) (y ∷ xs) x is here =
      ap (λ l. make n y ++ l) (one_from (n + 1) m i xs x (omega arith) here) ∙ sym (append_assoc (make n y) (by_number make (n + 1) (take i xs)) (make m x))

  -- one element more
  pub one_more : (i : ℕ) (xs : List A) (x : A) → slice_get xs i ≡ Some x → by_number make 0 (take (i + 1) xs) ≡ by_number make 0 (take i xs) ++ make i x
  one_more i xs x here =
      let on : i + 1 ≡ suc i = omega arith in
      ap (λ k. by_number make 0 (take k xs)) on ∙ one_from 0 i i xs x (omega arith) here

  -- what is made of it comes behind what was made before
  pub grown : (old before here after : List B) (i : ℕ) (xs : List A) (x : A) → slice_get xs i ≡ Some x → before ≡ old ++ by_number make 0 (take i xs)
      → here ≡ make i x → after ≡ before ++ here → after ≡ old ++ by_number make 0 (take (i + 1) xs)
  grown old before here after i xs x at so_far is more =
      more ∙ ap (λ l. l ++ here) so_far ∙ ap (λ l. (old ++ by_number make 0 (take i xs)) ++ l) is
      ∙ append_assoc old (by_number make 0 (take i xs)) (make i x) ∙ ap (λ l. old ++ l) (sym (one_more i xs x at))

  pub at_number : (i : ℕ) (xs : List A) (x : A) → slice_get xs i ≡ Some x → made_at make xs i ≡ make i x
  at_number i xs x here = ap (λ o. option_map_or (make i) o []) here

  -- the same where the element is read
  pub grown_read : (old before here after : List B) (i : ℕ) (xs : List A) (x : A) → i < length xs → x ≡ get_or xs i x → before ≡ old ++ by_number make 0 (take i xs)
      → here ≡ make i x → after ≡ before ++ here → after ≡ old ++ by_number make 0 (take (i + 1) xs)
  grown_read old before here after i xs x lt at so_far is more = grown old before here after i xs x (slice_get_read xs (length xs) i x refl lt at) so_far is more

  -- the same where it is looked up
  pub grown_at : (old before after : List B) (i : ℕ) (xs : List A) → before ≡ old ++ by_number make 0 (take i xs)
      → after ≡ before ++ made_at make xs i → after ≡ old ++ by_number make 0 (take (i + 1) xs)
  grown_at old before after i xs so_far more =
      elim (slice_get_cases xs i).1 [
        | inl found ↦ grown old before (made_at make xs i) after i xs found.0 found.2 so_far (at_number i xs found.0 found.2) more
        | inr past ↦
            let none : made_at make xs i ≡ [] = ap (λ o. option_map_or (make i) o []) past.1 in
            let same : take i xs ≡ take (i + 1) xs = take_all i xs past.0 ∙ sym (take_all (i + 1) xs (omega (arith, past.0))) in
            more ∙ ap (λ l. before ++ l) none ∙ append-nil before ∙ so_far ∙ ap (λ l. old ++ by_number make 0 l) same
      ]

  -- the same where the number alone decides
  pub grown_by_number : (old before here after : List B) (i : ℕ) (xs : List A) → i < length xs → before ≡ old ++ by_number make 0 (take i xs)
      → ((x : A) → here ≡ make i x) → after ≡ before ++ here → after ≡ old ++ by_number make 0 (take (i + 1) xs)
  grown_by_number old before here after i xs lt so_far is more =
      elim (slice_get_cases xs i).1 [
        | inl found ↦ grown old before here after i xs found.0 found.2 so_far (is found.0) more
        | inr past ↦ absurd (omega (arith, past.0, lt))
      ]

  -- where all were passed
  pub all_grown : (old after : List B) (i : ℕ) (xs : List A) → length xs ≤ i → after ≡ old ++ by_number make 0 (take i xs) → after ≡ old ++ by_number make 0 xs
  all_grown old after i xs past so_far = so_far ∙ ap (λ l. old ++ by_number make 0 l) (take_all i xs past)

  -- the same where nothing was made before
  pub made_more : (before after : List B) (i : ℕ) (xs : List A) (x : A) → i < length xs → x ≡ get_or xs i x → before ≡ by_number make 0 (take i xs)
      → after ≡ before ++ make i x → after ≡ by_number make 0 (take (i + 1) xs)
  made_more before after i xs x lt at so_far more = grown_read [] before (make i x) after i xs x lt at so_far refl more
