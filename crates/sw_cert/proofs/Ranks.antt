-- The ranks of places in a block rise, and where a search by ranks ends.
use Rattle.std.proofs.Common.{◌≡◌, ℕ, zero, suc, ◌+◌, ◌<◌, ◌≤◌, Bool, ◌||◌, true, false, List, [], ◌∷◌, length, get_or, Option, Some, None, Contains, refl, sym, ap, ◌∙◌, subst, ◌⊎◌, inl, inr, arith}
use Rattle.std.specs.Prelude.{slice_get}
use Rattle.std.specs.List.{AllByRecursion}
use Rattle.std.proofs.lemmas.Bool.{cases_Bool, cases_eq, cases_lt, eq-eqb, ne_eqb, le-ltb}
use Rattle.std.proofs.lemmas.List.Elements.{Contains-get_or}
use Rattle.sw_flow.specs.declared.place.Place.{Place}
use Rattle.sw_flow.proofs.Listed.{Contains-cases}
use Rattle.sw_cert.specs.Grammar.{stands_before, Rises, Fits, IsBlock}
use Rattle.sw_cert.specs.Refusals.{is_same, is_listed}
use Rattle.sw_cert.specs.Ranks.{rank, is_at}
use Rattle.sw_cert.proofs.Lists.{same_place, place_same, listed_place, place_listed, Contains-at}

before_rank : (p q : Place) → p.deleted ≤ 32 → stands_before (Some p) q ≡ true → rank p < rank q
before_rank p q few h = by (cases_lt p.channel q.channel) (cases_eq p.channel q.channel) (cases_lt p.deleted q.deleted)
  where
    by : (p.channel < q.channel) ⊎ (q.channel ≤ p.channel) → (p.channel ≡ q.channel) ⊎ (p.channel ≡ q.channel → ⊥) → (p.deleted < q.deleted) ⊎ (q.deleted ≤ p.deleted) → rank p < rank q
    by (inl lt) _ _ = omega arith
    by (inr ge) (inl same) (inl less) = omega arith
    by (inr ge) (inl same) (inr more) = absurd (let bad = rw (le-ltb p.channel q.channel ge, eq-eqb p.channel q.channel same, le-ltb p.deleted q.deleted more) at h in cc)
    by (inr ge) (inr other) _ = absurd (let bad = rw (le-ltb p.channel q.channel ge, ne_eqb p.channel q.channel other) at h in cc)

-- those behind p have greater ranks
above : (p : Place) (xs : List Place) → p.deleted ≤ 32 → AllByRecursion Fits xs → Rises (Some p) xs → (x : Place) → Contains xs x → rank p < rank x
above p [] few fits rises x m = absurd (omega (arith, m.1))
above p (y ∷ ys) few fits rises x m = by (Contains-cases y x ys m) (above y ys fits.0.1 fits.1 rises.1 x)
  where
    first : rank p < rank y
    first = before_rank p y few rises.0

    by : (y ≡ x) ⊎ Contains ys x → (Contains ys x → rank y < rank x) → rank p < rank x
    by (inl same) rest = subst (λ (z : Place). rank p < rank z) same first
    by (inr later) rest = omega (arith, rest later, first)

rise : (o : Option Place) (xs : List Place) → AllByRecursion Fits xs → Rises o xs → (i j : ℕ) (d : Place) → i < j → j < length xs → rank (get_or xs i d) < rank (get_or xs j d)
rise o [] fits rises i j d ij lt = absurd (omega arith)
rise o (x ∷ xs) fits rises zero zero d ij lt = absurd (omega arith)
rise o (x ∷ xs) fits rises zero (suc j) d ij lt = above x xs fits.0.1 fits.1 rises.1 (get_or xs j d) (Contains-get_or xs j d (omega arith))
rise o (x ∷ xs) fits rises (suc i) zero d ij lt = absurd (omega arith)
rise o (x ∷ xs) fits rises (suc i) (suc j) d ij lt = rise (Some x) xs fits.1 rises.1 i j d (omega arith) (omega arith)

pub ranks_rise : (xs : List Place) → IsBlock xs → (i j : ℕ) (d : Place) → i < j → j < length xs → rank (get_or xs i d) < rank (get_or xs j d)
ranks_rise xs block = rise None xs block.1 block.2

get_or_any : (xs : List Place) (i : ℕ) (d e : Place) → i < length xs → get_or xs i d ≡ get_or xs i e
get_or_any [] i d e lt = absurd (omega arith)
get_or_any (x ∷ xs) zero d e lt = refl
get_or_any (x ∷ xs) (suc i) d e lt = get_or_any xs i d e (omega arith)

-- each place before `low` has a lesser rank than p, and each from `high` on has none
pub record IsBetween (xs : List Place) (p : Place) (low high : ℕ) : Type 0 where
  pub ordered : low ≤ high
  pub within : high ≤ length xs
  pub lesser : (k : ℕ) → k < low → rank (get_or xs k p) < rank p
  pub others : (k : ℕ) → high ≤ k → k < length xs → rank p ≤ rank (get_or xs k p)

pub at_first : (xs : List Place) (p : Place) → IsBetween xs p 0 (length xs)
at_first xs p = record { ordered = omega arith; within = omega arith; lesser = λ k lt. absurd (omega arith); others = λ k le lt. absurd (omega arith) }

module _ (xs : List Place) (p : Place) (block : IsBlock xs) (low high middle : ℕ) (so : IsBetween xs p low high) (lt : middle < high) (found : Place) (at : found ≡ get_or xs middle found) where
  inside : middle < length xs
  inside = let w = so.within in omega arith

  here : get_or xs middle p ≡ found
  here = get_or_any xs middle p found inside ∙ sym at

  -- the place in the middle has a lesser rank
  pub higher : rank found < rank p → IsBetween xs p (middle + 1) high
  higher less = record { ordered = omega arith; within = so.within; lesser = λ k below. by k below (cases_eq k middle); others = so.others }
    where
      by : (k : ℕ) → k < middle + 1 → (k ≡ middle) ⊎ (k ≡ middle → ⊥) → rank (get_or xs k p) < rank p
      by k below (inl same) = subst (λ (n : ℕ). rank (get_or xs n p) < rank p) (sym same) (subst (λ (q : Place). rank q < rank p) (sym here) less)
      by k below (inr other) =
          let up : rank (get_or xs k p) < rank (get_or xs middle p) = ranks_rise xs block k middle p (omega arith) inside in
          let top : rank (get_or xs middle p) < rank p = subst (λ (q : Place). rank q < rank p) (sym here) less in
          omega (arith, up, top)

  -- it has none
  pub lower : low ≤ middle → rank p ≤ rank found → IsBetween xs p low middle
  lower ge more = record { ordered = ge; within = omega (arith, inside); lesser = so.lesser; others = λ k above in_list. by k above in_list (cases_eq k middle) }
    where
      low_end : rank p ≤ rank (get_or xs middle p)
      low_end = subst (λ (q : Place). rank p ≤ rank q) (sym here) more

      by : (k : ℕ) → middle ≤ k → k < length xs → (k ≡ middle) ⊎ (k ≡ middle → ⊥) → rank p ≤ rank (get_or xs k p)
      by k above in_list (inl same) = subst (λ (n : ℕ). rank p ≤ rank (get_or xs n p)) (sym same) low_end
      by k above in_list (inr other) =
          let up : rank (get_or xs middle p) < rank (get_or xs k p) = ranks_rise xs block middle k p (omega arith) in_list in
          omega (arith, up, low_end)

found_there : (xs : List Place) (i : ℕ) (p : Place) → i < length xs → slice_get xs i ≡ Some (get_or xs i p)
found_there [] i p lt = absurd (omega arith)
found_there (x ∷ xs) zero p lt = refl
found_there (x ∷ xs) (suc i) p lt = found_there xs i p (omega arith)

past_end : (xs : List Place) (i : ℕ) → length xs ≤ i → slice_get xs i ≡ None
past_end [] i le = refl
past_end (x ∷ xs) zero le = absurd (omega arith)
past_end (x ∷ xs) (suc i) le = past_end xs i (omega arith)

-- where the search ends, p is there or nowhere
module _ (xs : List Place) (p : Place) (block : IsBlock xs) (low : ℕ) (so : IsBetween xs p low low) where
  -- an index of p is `low`
  only : (k : ℕ) → k < length xs → get_or xs k p ≡ p → k ≡ low
  only k lt same = by (cases_lt k low) (cases_lt low k)
    where
      of_p : rank (get_or xs k p) ≡ rank p
      of_p = ap rank same

      by : (k < low) ⊎ (low ≤ k) → (low < k) ⊎ (k ≤ low) → k ≡ low
      by (inl before) _ = absurd (omega (arith, so.lesser k before, of_p))
      by (inr ge) (inr le) = omega arith
      by (inr ge) (inl after) =
          let up : rank (get_or xs low p) < rank (get_or xs k p) = ranks_rise xs block low k p after lt in
          let none : rank p ≤ rank (get_or xs low p) = so.others low (omega arith) (omega arith) in
          absurd (omega (arith, up, none, of_p))

  pub is_at_end : is_at xs low p ≡ is_listed xs p
  is_at_end = by (cases_Bool (is_listed xs p)) (cases_lt low (length xs))
    where
      by : (is_listed xs p ≡ true) ⊎ (is_listed xs p ≡ false) → (low < length xs) ⊎ (length xs ≤ low) → is_at xs low p ≡ is_listed xs p
      by (inl listed) side =
          let m = listed_place xs p listed in
          let same : get_or xs m.0 p ≡ p = get_or_any xs m.0 p p m.1 ∙ m.2 in
          let index : m.0 ≡ low = only m.0 m.1 same in
          let at : slice_get xs low ≡ Some p = ap (slice_get xs) (sym index) ∙ found_there xs m.0 p m.1 ∙ ap Some same in
          rw (at, place_same p) (sym listed)
      by (inr none) (inr past) = rw (past_end xs low past) (sym none)
      by (inr none) (inl inside) =
          let at = found_there xs low p inside in
          rw at (by_same (cases_Bool (is_same p (get_or xs low p))))
        where
          by_same : (is_same p (get_or xs low p) ≡ true) ⊎ (is_same p (get_or xs low p) ≡ false) → is_same p (get_or xs low p) ≡ is_listed xs p
          by_same (inr other) = other ∙ sym none
          by_same (inl same) =
              let eq : p ≡ get_or xs low p = same_place p (get_or xs low p) same in
              let listed = place_listed xs p (Contains-at xs low p (found_there xs low p inside ∙ ap Some (sym eq))) in
              absurd (let bad : true ≡ false = sym listed ∙ none in cc)

-- what is at an index is listed
pub at_listed : (xs : List Place) (i : ℕ) (p : Place) → is_at xs i p ≡ true → is_listed xs p ≡ true
at_listed [] i p h = absurd (let bad : false ≡ true = h in cc)
at_listed (x ∷ xs) zero p h = rw h refl
at_listed (x ∷ xs) (suc i) p h = later (is_same p x) (at_listed xs i p h)
  where
    later : (b : Bool) → is_listed xs p ≡ true → (b || is_listed xs p) ≡ true
    later true h = refl
    later false h = h
