-- The places of a list in order that are on one channel.
use Rattle.std.proofs.Common.{Bool, not, eqb, ◌≡◌, ◌<◌, ◌≤◌, ◌+◌, ◌-◌, ◌↔◌, ◌∙◌, ℕ, AllPairs, Contains, List, ap, arith, drop, false, get_or, inl, inr, length, ltb, slice_range, subst, sym, true}
use Rattle.std.specs.List.{AllWithin}
use Rattle.std.specs.List.Sorted.{IsNonDecreasingBy, IsPartitionPoint}
use Rattle.std.proofs.lemmas.Bool.{cases_lt, ltb-false, ltb-true}
use Rattle.std.proofs.lemmas.Bool.Decides.{nat_tests}
use Rattle.std.proofs.lemmas.List.{get_or-drop, get_or-take, get_or_default, length-drop, length-take-le}
use Rattle.sw_flow.specs.declared.place.Place.{Place}
use Rattle.sw_flow.specs.Places.{IsBefore}

-- channels do not fall along places in order
pub not_falling : (places : List Place) → AllPairs IsBefore places → IsNonDecreasingBy (λ p. p.channel) places
not_falling places order i j d le lt = elim (cases_lt i j) [
  | inl less ↦ elim (order i j d less lt) [
    | inl below ↦ omega (arith, below)
    | inr same ↦ let equal = same.0 in omega (arith, equal)
  ]
  | inr past ↦
      let equal : i ≡ j = omega (arith, le, past) in
      let same = ap (λ k. (get_or places k d).channel) equal in
      omega (arith, same)
]

-- the place of the first on channel c or after it, by tests and in words
pub from_tests : (places : List Place) (c first : ℕ) → IsPartitionPoint (λ (p : Place). ltb p.channel c ≡ true) (λ p. ltb p.channel c ≡ false) places first
    → IsPartitionPoint (λ p. p.channel < c) (λ p. c ≤ p.channel) places first
from_tests places c first h = (
  λ k d low high. ltb-true (get_or places k d).channel c (h.0 k d low high),
  λ k d low high. ltb-false (get_or places k d).channel c (h.1 k d low high),
)

differs : (a b : ℕ) (r : Bool) → r ≡ not (eqb a b) → r ≡ true → a ≡ b → ⊥
differs a b r is told = grind (arith, nat_tests)

-- all from a place on that is on no channel before c, and not on c
pub all_after : (places : List Place) (c : ℕ) → AllPairs IsBefore places → (at : ℕ) (p : Place) (r : Bool) → at < length places → p ≡ get_or places at p → c ≤ p.channel → r ≡ not (eqb p.channel c) → r ≡ true
    → AllWithin (λ (q : Place). c < q.channel) places at (length places)
all_after places c order at p r within is least told_is told k d low high = elim (cases_lt c p.channel) [
  | inl less ↦
      let same = ap (λ (q : Place). q.channel) (is ∙ sym (get_or_default places at d p within)) in
      let more = not_falling places order at k d low high in
      omega (arith, less, same, more)
  | inr past ↦ absurd (differs p.channel c r told_is told (omega (arith, least, past)))
]

-- the places from the first on that is on channel c or after it
module _ (places : List Place) (first : ℕ) (within : first ≤ length places) where
  abbrev rest : List Place
  rest = slice_range places first (length places)

  long : length rest ≡ length places - first
  long = let l = length-drop first places in length-take-le (length places - first) (drop first places) (omega (arith, l))

  at : (k : ℕ) (p : Place) → k < length places - first → get_or rest k p ≡ get_or places (first + k) p
  at k p less = get_or-take (length places - first) (drop first places) k p less ∙ get_or-drop first places k p

  pub rest_in_order : AllPairs IsBefore places → AllPairs IsBefore rest
  rest_in_order order i j p less high =
      let short : j < length places - first = omega (arith, high, long) in
      let a = at i p (omega (arith, less, short)) in
      let b = at j p short in
      subst (λ (q : Place). IsBefore q (get_or rest j p)) (sym a) (subst (IsBefore (get_or places (first + i) p)) (sym b) (order (first + i) (first + j) p (omega (arith, less)) (omega (arith, short, within))))

  pub rest_members : (c : ℕ) → IsPartitionPoint (λ (p : Place). p.channel < c) (λ p. c ≤ p.channel) places first → (p : Place) → Contains rest p ↔ (Contains places p × (c ≤ p.channel))
  rest_members c parted p = (
    λ h.
        let k : ℕ = h.0 in
        let less : k < length places - first = let inside = h.1 in omega (arith, inside, long) in
        let here : get_or places (first + k) p ≡ p = sym (at k p less) ∙ h.2 in
        let least = parted.1 (first + k) p (omega arith) (omega (arith, less, within)) in
        let same = ap (λ (q : Place). q.channel) here in
        ((first + k, omega (arith, less, within), here), omega (arith, least, same)),
    λ h.
        let k : ℕ = h.0.0 in
        let inside : k < length places = h.0.1 in
        let here : get_or places k p ≡ p = h.0.2 in
        let same = ap (λ (q : Place). q.channel) here in
        let least : c ≤ p.channel = h.1 in
        elim (cases_lt k first) [
          | inl less ↦ absurd (let low = parted.0 k p (omega arith) less in omega (arith, low, same, least))
          | inr begun ↦
              let sum : first + (k - first) ≡ k = omega (arith, begun) in
              let short : k - first < length places - first = omega (arith, begun, inside) in
              (k - first, omega (arith, long, short), at (k - first) p short ∙ ap (λ n. get_or places n p) sum ∙ here)
        ],
  )
