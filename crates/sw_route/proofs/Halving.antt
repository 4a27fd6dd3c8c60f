-- A search by halving finds the first interval that does not end before an address.
use Rattle.std.proofs.Common.{◌≡◌, ℕ, zero, suc, ◌<◌, ◌≤◌, Bool, true, false, ltb, leb, List, [], ◌∷◌, length, get_or, refl, sym, inl, inr, arith}
use Rattle.std.specs.Prelude.{find, slice_get}
use Rattle.std.specs.List.Sorted.{IsNonDecreasingBy, IsPartitionedBy, IsPartitionPoint}
use Rattle.std.proofs.lemmas.Bool.{cases_lt}
use Rattle.std.proofs.lemmas.Bool.Decides.{nat_tests}
use Rattle.std.proofs.lemmas.List.Sorted.{IsPartitionedBy-ltb}
use Rattle.sw_route.specs.declared.intervals.Interval.{Interval}
use Rattle.sw_route.specs.Intervals.{IsIntervals}

-- the first that passes stands where those before it fail, and it passes or there is none
pub find_here : {X : Type 0} (p : X → Bool) (xs : List X) (i : ℕ) → ((k : ℕ) (d : X) → k < i → p (get_or xs k d) ≡ false) → ((d : X) → i < length xs → p (get_or xs i d) ≡ true) → i ≤ length xs → find p xs ≡ slice_get xs i
find_here p [] i before here within = refl
find_here p (x ∷ xs) zero before here within = rw (here x (omega arith)) refl
find_here p (x ∷ xs) (suc i) before here within =
    rw (before zero x (omega arith)) (find_here p xs i (λ k d lt. before (suc k) d (omega arith)) (λ d lt. here d (omega arith)) (omega arith))

-- intervals that rise do not fall
rising_kept : (is : List Interval) → IsIntervals is → IsNonDecreasingBy (λ i. i.last) is
rising_kept is rising i j d le lt =
    elim (cases_lt i j) [
      | inl below ↦ let less = rising.rising i j d below lt in omega arith
      | inr past ↦ let same : i ≡ j = omega arith in rw same (omega arith)
    ]

-- what halving asks
pub rising_parted : (is : List Interval) (address : ℕ) → IsIntervals is → IsPartitionedBy (λ i. ltb i.last address) is
rising_parted is address rising = IsPartitionedBy-ltb (λ i. i.last) is address (rising_kept is rising)

not_below : (a b : ℕ) → ltb b a ≡ true → leb a b ≡ false
not_below a b below = grind (arith, nat_tests)

not_past : (a b : ℕ) → ltb b a ≡ false → leb a b ≡ true
not_past a b past = grind (arith, nat_tests)

-- what it finds
pub halved : (is : List Interval) (address at : ℕ) → at ≤ length is → IsPartitionPoint (λ i. ltb i.last address ≡ true) (λ i. ltb i.last address ≡ false) is at → slice_get is at ≡ find (λ i. leb address i.last) is
halved is address at within found =
    sym (find_here (λ i. leb address i.last) is at
    (λ k d lt. not_below address _ (found.0 k d (omega arith) lt))
    (λ d lt. not_past address _ (found.1 at d (omega arith) lt))
    within)
