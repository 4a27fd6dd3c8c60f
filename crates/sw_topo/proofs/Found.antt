-- Elements of a list that pass a test: where they stand, and how many there are.
use Rattle.std.proofs.Common.{◌≡◌, ℕ, zero, suc, ◌+◌, ◌<◌, Bool, true, false, cond, List, [], ◌∷◌, take, Some, refl, sym, ap, ◌∙◌, inl, inr, arith}
use Rattle.std.specs.Prelude.{slice_get, count_by, position}
use Rattle.std.specs.List.{list_any}
use Rattle.std.proofs.lemmas.Bool.{cases_Bool, false≢true}
use Rattle.std.proofs.lemmas.List.Quantifiers.{position-Some}
use Rattle.std.proofs.lemmas.List.Sums.{sum_by-cons}
use Rattle.std.proofs.lemmas.Option.{slice_get-get_or}

-- element d of the list passes
pub record Passes {X : Type 0} (p : X → Bool) (xs : List X) (d : ℕ) : Type 0 where
  pub element : X
  pub at : slice_get xs d ≡ Some element
  pub passes : p element ≡ true

module _ {X : Type 0} (p : X → Bool) where
  pub rest_passes : (x : X) (xs : List X) (d : ℕ) → Passes p (x ∷ xs) (suc d) → Passes p xs d
  rest_passes x xs d here = record { element = here.element; at = here.at; passes = here.passes }

  one_more : (x : X) (xs : List X) → p x ≡ true → count_by p (x ∷ xs) ≡ 1 + count_by p xs
  one_more x xs e = sum_by-cons (λ x. cond (p x) 1 0) x xs ∙ ap (λ b. cond b 1 0 + count_by p xs) e

  no_more : (x : X) (xs : List X) → p x ≡ false → count_by p (x ∷ xs) ≡ count_by p xs
  no_more x xs e = sum_by-cons (λ x. cond (p x) 1 0) x xs ∙ ap (λ b. cond b 1 0 + count_by p xs) e ∙ omega arith

  head_passes : (x : X) (xs : List X) → Passes p (x ∷ xs) 0 → p x ≡ true
  head_passes x xs here = let e : x ≡ here.element = let f = here.at in cc in ap p e ∙ here.passes

  -- then some element does
  pub counted : (xs : List X) (d : ℕ) → Passes p xs d → 0 < count_by p xs
  counted [] d here = absurd (let e = here.at in cc)
  counted (x ∷ xs) zero here = omega (arith, one_more x xs (head_passes x xs here))
  counted (x ∷ xs) (suc d) here =
      elim (cases_Bool (p x)) [
        | inl passes ↦ omega (arith, one_more x xs passes)
        | inr fails ↦ omega (arith, no_more x xs fails, counted xs d (rest_passes x xs d here))
      ]

  -- where one element passes, it stands in one place
  pub one_place : (xs : List X) → count_by p xs ≡ 1 → (c d : ℕ) → Passes p xs c → Passes p xs d → c ≡ d
  one_place [] one c d at_c at_d = absurd (omega arith)
  one_place (x ∷ xs) one zero zero at_c at_d = refl
  one_place (x ∷ xs) one zero (suc d) at_c at_d = absurd (omega (arith, one, counted xs d (rest_passes x xs d at_d), one_more x xs (head_passes x xs at_c)))
  one_place (x ∷ xs) one (suc c) zero at_c at_d = absurd (omega (arith, one, counted xs c (rest_passes x xs c at_c), one_more x xs (head_passes x xs at_d)))
  one_place (x ∷ xs) one (suc c) (suc d) at_c at_d =
      elim (cases_Bool (p x)) [
        | inl passes ↦ absurd (omega (arith, one, counted xs c (rest_passes x xs c at_c), one_more x xs passes))
        | inr fails ↦ ap suc (one_place xs (sym (no_more x xs fails) ∙ one) c d (rest_passes x xs c at_c) (rest_passes x xs d at_d))
      ]

  -- what passes at d is found among the first c, where d is below c
  pub found_before : (xs : List X) (c d : ℕ) → d < c → Passes p xs d → list_any p (take c xs) ≡ true
  found_before xs zero d lt here = absurd (omega arith)
  found_before [] (suc c) d lt here = absurd (let e = here.at in cc)
  found_before (x ∷ xs) (suc c) zero lt here = let e : x ≡ here.element = let f = here.at in cc in rw (e, here.passes) refl
  found_before (x ∷ xs) (suc c) (suc d) lt here =
      elim (cases_Bool (p x)) [ inl passes ↦ rw passes refl | inr fails ↦ rw fails (found_before xs c d (omega arith) (rest_passes x xs d here)) ]

  -- where any passes, there is a place
  pub any_place : (xs : List X) → list_any p xs ≡ true → (d : ℕ) × Passes p xs d
  any_place [] any = absurd (false≢true any)
  any_place (x ∷ xs) any =
      elim (cases_Bool (p x)) [
        | inl here ↦ (0, record { element = x; at = refl; passes = here })
        | inr fails ↦ let rest = any_place xs (rw fails at any) in (suc rest.0, record { element = (rest.1).element; at = (rest.1).at; passes = (rest.1).passes })
      ]

  -- the first place passes
  pub place_passes : (xs : List X) (x : X) (c : ℕ) → position p xs ≡ Some c → Passes p xs c
  place_passes xs x c at =
      let first = position-Some p xs c x at in
      record { element = _; at = slice_get-get_or xs c x first.0; passes = first.1 }

  later : (x : X) (xs : List X) (d : ℕ) → Passes p xs d → Passes p (x ∷ xs) (suc d)
  later x xs d here = record { element = here.element; at = here.at; passes = here.passes }

  none_counted : (xs : List X) → ((d : ℕ) → Passes p xs d → ⊥) → count_by p xs ≡ 0
  none_counted [] none = refl
  none_counted (x ∷ xs) none =
      elim (cases_Bool (p x)) [
        | inl here ↦ absurd (none 0 (record { element = x; at = refl; passes = here }))
        | inr fails ↦ no_more x xs fails ∙ none_counted xs (λ d there. none (suc d) (later x xs d there))
      ]

  -- what passes in one place alone is counted once
  pub one_counted : (xs : List X) (c : ℕ) → Passes p xs c → ((d : ℕ) → Passes p xs d → d ≡ c) → count_by p xs ≡ 1
  one_counted [] c here alone = absurd (let e = here.at in cc)
  one_counted (x ∷ xs) zero here alone =
      omega (arith, one_more x xs (head_passes x xs here), none_counted xs (λ d there. let e : suc d ≡ zero = alone (suc d) (later x xs d there) in omega arith))
  one_counted (x ∷ xs) (suc c) here alone =
      elim (cases_Bool (p x)) [
        | inl first ↦ absurd (let e : zero ≡ suc c = alone zero (record { element = x; at = refl; passes = first }) in omega arith)
        | inr fails ↦ no_more x xs fails ∙ one_counted xs c (rest_passes x xs c here) (λ d there. let e : suc d ≡ suc c = alone (suc d) (later x xs d there) in omega arith)
      ]

  -- what passes makes `any` true
  pub place_any : (xs : List X) (d : ℕ) → Passes p xs d → list_any p xs ≡ true
  place_any [] d here = absurd (let e = here.at in cc)
  place_any (x ∷ xs) zero here = rw (head_passes x xs here) refl
  place_any (x ∷ xs) (suc d) here = elim (cases_Bool (p x)) [ inl passes ↦ rw passes refl | inr fails ↦ rw fails (place_any xs d (rest_passes x xs d here)) ]

  -- what is found among the first c stands before c
  pub before_found : (xs : List X) (c : ℕ) → list_any p (take c xs) ≡ true → (d : ℕ) × (d < c) × Passes p xs d
  before_found xs zero any = absurd (false≢true any)
  before_found [] (suc c) any = absurd (false≢true any)
  before_found (x ∷ xs) (suc c) any =
      elim (cases_Bool (p x)) [
        | inl here ↦ (0, omega arith, record { element = x; at = refl; passes = here })
        | inr fails ↦ let rest = before_found xs c (rw fails at any) in (suc rest.0, omega (arith, rest.1), later x xs rest.0 rest.2)
      ]
