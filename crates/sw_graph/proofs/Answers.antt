-- What rayon's calls gave, in the words of the contracts.
use Rattle.std.proofs.Common.{◌≡◌, ℕ, ◌-◌, ◌<◌, Bool, true, false, List, [], ◌∷◌, map, Option, Some, None, is_some, Result, Ok, Err, IfOk, MatchResult, Contains, All, refl, sym, ◌∙◌, subst, arith}
use Rattle.std.specs.Prelude.{slice_get}
use Rattle.std.specs.Option.{option_flatten}
use Rattle.std.specs.List.{AllZip, range_with_len}
use Rattle.std.specs.Borrow.{Bor}
use Rattle.rayon.specs.Lists.{filter_by_mask}
use Rattle.rayon.proofs.ToStd.{answers-by_ref, nat_range-All}
use Rattle.sw_graph.specs.Found.{AreKept, IsFirstFound}

pub numbers_are : (is : List ℕ) (from to n : ℕ) → is ≡ range_with_len from (to - from) → from ≡ 0 → to ≡ n → is ≡ range_with_len 0 n
numbers_are is from to n given low high =
    let whole : to - from ≡ n = omega (arith, low, high) in
    given ∙ (λ i. range_with_len (low i) (whole i))

-- what each call made, where all did
pub all_made : {X V E : Type 0} (items : V → List X) (R : ℕ → Result X E → Type 0) (is : List ℕ) (ys : List (Result X E)) (r : Result V E) → AllZip R is ys
    → MatchResult r (λ c. (zs : List X) × (ys ≡ map Ok zs) × (items c ≡ zs)) (λ e. Contains ys (Err e))
    → IfOk r (λ v. AllZip (λ i x. R i (Ok x)) is (items v))
all_made {X = X} {E = E} items R is ys (Ok v) all m = subst (AllZip (λ i x. R i (Ok x)) is) (sym m.2) (each is m.0 (subst (AllZip R is) m.1 all))
  where
    each : (is : List ℕ) (zs : List X) → AllZip R is (map Ok zs) → AllZip (λ i x. R i (Ok x)) is zs
    each [] [] h = tt
    each [] (z ∷ zs) h = absurd h
    each (i ∷ is) [] h = absurd h
    each (i ∷ is) (z ∷ zs) h = (h.0, each is zs h.1)
all_made items R is ys (Err e) all m = tt

first_of : {Y : Type 0} (R : ℕ → Option Y → Type 0) (is : List ℕ) (os : List (Option Y)) (bs : List Bool) → AllZip R is os → AllZip (λ o b. b ≡ is_some o) os bs → IsFirstFound R is (option_flatten (slice_get (filter_by_mask os bs) 0))
first_of R [] [] [] h k = refl
first_of R [] [] (b ∷ bs) h k = absurd k
first_of R [] (o ∷ os) bs h k = absurd h
first_of R (i ∷ is) [] bs h k = absurd h
first_of R (i ∷ is) (o ∷ os) [] h k = absurd k
first_of R (i ∷ is) (None ∷ os) (true ∷ bs) h k = absurd (let bad : true ≡ false = k.0 in cc)
first_of R (i ∷ is) (None ∷ os) (false ∷ bs) h k = (None, h.0, first_of R is os bs h.1 k.1)
first_of R (i ∷ is) (Some y ∷ os) (true ∷ bs) h k = (Some y, h.0, refl)
first_of R (i ∷ is) (Some y ∷ os) (false ∷ bs) h k = absurd (let bad : false ≡ true = k.0 in cc)

pub first_answered : {Y : Type 0} (R : ℕ → Option Y → Type 0) (is : List ℕ) (os : List (Option Y)) (bs : List Bool) (found : Option (Option Y)) → AllZip R is os
    → AllZip (λ o b. (r : Bor (Option Y)) × (r.now ≡ o) × (b ≡ is_some r.now)) os bs → found ≡ slice_get (filter_by_mask os bs) 0 → IsFirstFound R is (option_flatten found)
first_answered R is os bs found asked h e = subst (λ f. IsFirstFound R is (option_flatten f)) (sym e) (first_of R is os bs asked (answers-by_ref is_some os bs h))

pub kept_answered : (R : ℕ → Bool → Type 0) (xs : List ℕ) (bs : List Bool) → AllZip (λ x b. (r : Bor ℕ) × (r.now ≡ x) × R r.now b) xs bs → AreKept R xs (filter_by_mask xs bs)
kept_answered R [] bs h = refl
kept_answered R (x ∷ xs) [] h = absurd h
kept_answered R (x ∷ xs) (true ∷ bs) h = (true, subst (λ (y : ℕ). R y true) h.0.1 h.0.2, (filter_by_mask xs bs, refl, kept_answered R xs bs h.1))
kept_answered R (x ∷ xs) (false ∷ bs) h = (false, subst (λ (y : ℕ). R y false) h.0.1 h.0.2, kept_answered R xs bs h.1)

pub each_number : (P : ℕ → Type 0) (n : ℕ) → ((i : ℕ) → i < n → P i) → All P (range_with_len 0 n)
each_number P n each =
    let whole : n - 0 ≡ n = omega arith in
    subst (λ (m : ℕ). All P (range_with_len 0 m)) whole (nat_range-All P 0 n (λ i low high. each i high))
