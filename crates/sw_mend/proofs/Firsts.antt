-- The first of a list that is such.
use Rattle.std.proofs.Common.{◌≡◌, ℕ, zero, suc, ◌+◌, ◌-◌, ◌<◌, ◌≤◌, List, [], ◌∷◌, ◌++◌, Option, Some, None, inl, inr, map, refl, subst, sym, ap, ◌∙◌, arith}
use Rattle.std.specs.Prelude.{slice_get}
use Rattle.std.proofs.lemmas.Option.{same_Some}
use Rattle.sw_mend.specs.Limitings.{IsFirst, down_from}

module _ {A : Type 0} (Is : A → Type 0) where
  pub first_is : (xs : List A) (x : A) → IsFirst Is xs (Some x) → Is x
  first_is [] x found = absurd cc
  first_is (y ∷ ys) x found = elim found [
    | inl here ↦ subst Is (same_Some y x (sym here.1)) here.0
    | inr later ↦ first_is ys x later.1
  ]

  pub one_first : (xs : List A) (a b : Option A) → IsFirst Is xs a → IsFirst Is xs b → a ≡ b
  one_first [] a b first other = first ∙ sym other
  one_first (y ∷ ys) a b first other = elim first [
    | inl here ↦ elim other [
      | inl same ↦ here.1 ∙ sym same.1
      | inr later ↦ absurd (later.0 here.0)
    ]
    | inr later ↦ elim other [
      | inl here ↦ absurd (later.0 here.0)
      | inr same ↦ one_first ys a b later.1 same.1
    ]
  ]

  -- at some place of the list, and none before it is such
  abbrev pub FirstAt : List A → A → Type 0
  FirstAt xs x = (i : ℕ) × (slice_get xs i ≡ Some x) × ((j : ℕ) (y : A) → j < i → slice_get xs j ≡ Some y → Is y → ⊥)

  not_before : (y : A) (ys : List A) (i : ℕ) → (Is y → ⊥) → ((j : ℕ) (z : A) → j < i → slice_get ys j ≡ Some z → Is z → ⊥)
      → (j : ℕ) (z : A) → j < suc i → slice_get (y ∷ ys) j ≡ Some z → Is z → ⊥
  not_before y ys i never before zero z lt here is = never (subst Is (sym (same_Some y z here)) is)
  not_before y ys i never before (suc j) z lt here is = before j z (omega (arith, lt)) here is

  later_at : (y : A) (ys : List A) (x : A) → (Is y → ⊥) → FirstAt ys x → FirstAt (y ∷ ys) x
  later_at y ys x never (i, at, before) = (suc i, at, λ j z lt here is. not_before y ys i never before j z lt here is)

  pub first_at : (xs : List A) (x : A) → IsFirst Is xs (Some x) → FirstAt xs x
  first_at [] x found = absurd cc
  first_at (y ∷ ys) x found = elim found [
    | inl here ↦ (0, sym here.1, λ j z lt at is. absurd (omega (arith, lt)))
    | inr later ↦ later_at y ys x later.0 (first_at ys x later.1)
  ]
