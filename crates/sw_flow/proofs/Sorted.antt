-- Two lists in order that have the same members are one.
use Rattle.std.proofs.Common.{◌≡◌, suc, List, [], ◌∷◌, Contains, refl, sym, subst, inl, inr, arith}
use Rattle.std.specs.Prelude.{AllPairs}
use Rattle.sw_config.specs.Entries.{FlowEntry, Declaration}
use Rattle.sw_flow.specs.declared.place.Place.{Place}
use Rattle.sw_flow.specs.Places.{IsBefore, IsPlaceList}
use Rattle.sw_flow.proofs.Listed.{Contains-cases, Contains-head, Contains-later}

module _ {X : Type 0} (R : X → X → Type 0) where
  pub before_rest : (x : X) (xs : List X) → AllPairs R (x ∷ xs) → (y : X) → Contains xs y → R x y
  before_rest x xs h y m = subst (λ (z : X). R x z) m.2 (h 0 (suc m.0) y (omega arith) (omega (arith, m.1)))

  pub tail_pairs : (x : X) (xs : List X) → AllPairs R (x ∷ xs) → AllPairs R xs
  tail_pairs x xs h i j d ij lt = h (suc i) (suc j) d (omega arith) (omega arith)

module _ {X : Type 0} (R : X → X → Type 0) (strict : (x y : X) → R x y → R y x → ⊥) where
  same_head : (x : X) (xs : List X) (y : X) (ys : List X) → AllPairs R (x ∷ xs) → AllPairs R (y ∷ ys) → Contains (y ∷ ys) x → Contains (x ∷ xs) y → x ≡ y
  same_head x xs y ys h k there here = elim (Contains-cases y x ys there) [
    | inl same ↦ sym same
    | inr later ↦ elim (Contains-cases x y xs here) [
      | inl same ↦ same
      | inr other ↦ absurd (strict x y (before_rest R x xs h y other) (before_rest R y ys k x later))
    ]
  ]

  -- what the rest of one list has, that of the other has
  same_rest : (x : X) (xs ys : List X) → AllPairs R (x ∷ xs) → ((p : X) → Contains (x ∷ xs) p → Contains (x ∷ ys) p) → (p : X) → Contains xs p → Contains ys p
  same_rest x xs ys h move p m = elim (Contains-cases x p ys (move p (Contains-later x p xs m))) [
    | inl same ↦
        let first : R x p = before_rest R x xs h p m in
        let self : R x x = subst (λ (z : X). R x z) (sym same) first in
        absurd (strict x x self self)
    | inr later ↦ later
  ]

  pub same_sorted : (xs ys : List X) → AllPairs R xs → AllPairs R ys → ((p : X) → Contains xs p → Contains ys p) → ((p : X) → Contains ys p → Contains xs p) → xs ≡ ys
  same_sorted [] [] h k to back = refl
  same_sorted [] (y ∷ ys) h k to back = absurd (let m = back y (Contains-head y ys) in omega (arith, m.1))
  same_sorted (x ∷ xs) [] h k to back = absurd (let m = to x (Contains-head x xs) in omega (arith, m.1))
  same_sorted (x ∷ xs) (y ∷ ys) h k to back =
      let first : x ≡ y = same_head x xs y ys h k (to x (Contains-head x xs)) (back y (Contains-head y ys)) in
      let pairs : AllPairs R (x ∷ ys) = subst (λ (z : X). AllPairs R (z ∷ ys)) (sym first) k in
      let forth : (p : X) → Contains (x ∷ xs) p → Contains (x ∷ ys) p = λ p m. subst (λ (z : X). Contains (z ∷ ys) p) (sym first) (to p m) in
      let again : (p : X) → Contains (x ∷ ys) p → Contains (x ∷ xs) p = λ p m. back p (subst (λ (z : X). Contains (z ∷ ys) p) first m) in
      let rest : xs ≡ ys = same_sorted xs ys (tail_pairs R x xs h) (tail_pairs R x ys pairs) (same_rest x xs ys h forth) (same_rest x ys xs pairs again) in
      λ i. first i ∷ rest i

strict_places : (p q : Place) → IsBefore p q → IsBefore q p → ⊥
strict_places p q (inl h) (inl k) = omega arith
strict_places p q (inl h) (inr k) = let e = k.0 in omega arith
strict_places p q (inr h) (inl k) = let e = h.0 in omega arith
strict_places p q (inr h) (inr k) = let e = h.1 in let f = k.1 in omega arith

-- a flow has one list of its places
pub same_places : (d : Declaration) (f : FlowEntry) (xs ys : List Place) → IsPlaceList d f xs → IsPlaceList d f ys → xs ≡ ys
same_places d f xs ys h k = same_sorted IsBefore strict_places xs ys h.in_order k.in_order (λ p m. (k.member p).1 ((h.member p).0 m)) (λ p m. (h.member p).1 ((k.member p).0 m))
