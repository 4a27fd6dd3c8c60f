-- Tallies in a total order of their items.
use Rattle.std.proofs.Common.{◌≡◌, ◌∙◌, ◌<◌, ◌≤◌, ◌+◌, ℕ, suc, zero, List, [], ◌∷◌, ap, arith, inl, inr, length, get_or, map, refl, subst, sym, slice_set, Result, Bor}
use Rattle.std.proofs.lemmas.Fn.{always_returns_same}
use Rattle.std.specs.Fn.{Called, ComputesKey}
use denote.Param.Members.{Mut}
use Rattle.std.proofs.lemmas.Bool.{cases_lt}
use Rattle.std.specs.List.{AllByRecursion, HoldsAt, insert}
use Rattle.std.specs.List.Sorted.{IsBinarySearchResult, IsNonDecreasingBy, IsPartitionPoint, IsStrictlySortedBy}
use Rattle.std.specs.Cmp.{IsTotalOrder, alike_right, nat_cmp_total, on_total, then_total, tied_back}
use Rattle.std.specs.Cmp.Lexicographic.{on_texts}
use Rattle.std.specs.declared.cmp.Ordering.{Ordering}
use Rattle.std.specs.declared.cmp.Ordering.TheVariants.{Less, Equal, Greater}
use Rattle.std.specs.Ordering.{ordering_index, ordering_reverse}
use Rattle.sw_char.specs.PacketView.{PacketView}
use Rattle.sw_output.specs.Counting.{IsRisingBy, TallyOf, counted_at, counted_by}
use Rattle.sw_output.specs.Tallies.{end_rank, packet_order}

pub packet_order_total : IsTotalOrder packet_order
packet_order_total = then_total (on_texts (λ (p : PacketView). p.bytes)) (on_total (λ (p : PacketView). end_rank p.end) nat_cmp_total)

-- from the clause `position` of `binary_search_by`, where each call gives ord of the element
pub searched : {X F : Type 0} {g : Mut F (Bor X × Unit {0}) Ordering} {f : F} (ord : X → Ordering) (xs : List X) (r : Result ℕ ℕ)
    → ((key : X → Ordering) → ComputesKey g key f → IsBinarySearchResult key xs r)
    → ((a : Bor X × Unit {0}) (o : Ordering) (after : F) → Called g f a o after → (o ≡ ord a.0.now) × (after ≡ f))
    → IsBinarySearchResult ord xs r
searched {g = g} {f = f} ord xs r clause h = clause ord (always_returns_same g (λ a o. o ≡ ord a.0.now) f h)

module _ {X : Type 0} {order : X → X → Ordering} (total : IsTotalOrder order) where
  abbrev Tally : Type 0
  Tally = TallyOf X

  abbrev IsLess : X → X → Type 0
  IsLess p q = order p q ≡ Less

  pub turned : (p q : X) (r : Ordering) → order q p ≡ r → order p q ≡ ordering_reverse r
  turned p q r is = total.antisymm p q ∙ ap ordering_reverse is

  abbrev new_tally : X → Tally
  new_tally p = record { item = p; count = 1 }

  abbrev raised : Tally → Tally
  raised t = record t { count = t.count + 1 }

  -- an item that stands at i
  pub counted_there : (p : X) (ts : List Tally) (i : ℕ) (d : Tally) → i < length ts
      → ((k : ℕ) → k < i → IsLess (get_or ts k d).item p) → order (get_or ts i d).item p ≡ Equal
      → counted_by order p ts ≡ slice_set ts i (raised (get_or ts i d))
  counted_there p [] i d within below here = absurd (omega (arith, within))
  counted_there p (t ∷ ts) zero d within below here =
      ap (λ (r : Ordering). counted_at p r t ts (counted_by order p ts)) (tied_back total t.item p here)
  counted_there p (t ∷ ts) (suc i) d within below here =
      let first : IsLess t.item p = below 0 (omega arith) in
      ap (λ (r : Ordering). counted_at p r t ts (counted_by order p ts)) (turned p t.item Less first)
      ∙ ap (λ (l : List Tally). t ∷ l) (counted_there p ts i d (omega (arith, within)) (λ k less. below (suc k) (omega (arith, less))) here)

  -- an item that stands nowhere, and comes before i
  pub counted_new : (p : X) (ts : List Tally) (i : ℕ) (d : Tally) → i ≤ length ts
      → ((k : ℕ) → k < i → IsLess (get_or ts k d).item p) → ((k : ℕ) → i ≤ k → k < length ts → order (get_or ts k d).item p ≡ Greater)
      → counted_by order p ts ≡ insert ts i (new_tally p)
  counted_new p [] zero d within below above = refl
  counted_new p [] (suc i) d within below above = absurd (omega (arith, within))
  counted_new p (t ∷ ts) zero d within below above =
      let first : order t.item p ≡ Greater = above 0 (omega arith) (omega arith) in
      ap (λ (r : Ordering). counted_at p r t ts (counted_by order p ts)) (turned p t.item Greater first)
  counted_new p (t ∷ ts) (suc i) d within below above =
      let first : IsLess t.item p = below 0 (omega arith) in
      ap (λ (r : Ordering). counted_at p r t ts (counted_by order p ts)) (turned p t.item Less first)
      ∙ ap (λ (l : List Tally). t ∷ l)
      (counted_new p ts i d (omega (arith, within)) (λ k less. below (suc k) (omega (arith, less))) (λ k more less. above (suc k) (omega (arith, more)) (omega (arith, less))))

  less_there : (p : X) (ts : List Tally) (k : ℕ) (d : Tally) → AllByRecursion (IsLess p) (map (λ (t : Tally). t.item) ts) → k < length ts
      → IsLess p (get_or ts k d).item
  less_there p [] k d all within = absurd (omega (arith, within))
  less_there p (t ∷ ts) zero d all within = all.0
  less_there p (t ∷ ts) (suc k) d all within = less_there p ts k d all.1 (omega (arith, within))

  pub rises : (ts : List Tally) (i j : ℕ) (d : Tally) → IsRisingBy order ts → i < j → j < length ts → IsLess (get_or ts i d).item (get_or ts j d).item
  unfolding IsStrictlySortedBy
  rises [] i j d h less within = absurd (omega (arith, within))
  rises (t ∷ ts) i zero d h less within = absurd (omega (arith, less))
  rises (t ∷ ts) zero (suc j) d h less within = less_there t.item ts j d h.0 (omega (arith, within))
  rises (t ∷ ts) (suc i) (suc j) d h less within = rises ts i j d h.1 (omega (arith, less)) (omega (arith, within))

  -- what comes before less than p, or p itself, is less than p
  pub less_before : (a b p : X) (r : Ordering) → IsLess a b → order b p ≡ r → ordering_index r ≤ 1 → IsLess a p
  less_before a b p Less less is small = total.trans a b p less is
  less_before a b p Equal less is small = sym (alike_right total b p a is) ∙ less
  less_before a b p Greater less is small = absurd (omega (arith, small))

  index_small : (r : Ordering) → ordering_index r ≤ 2
  index_small Less = omega arith
  index_small Equal = omega arith
  index_small Greater = omega arith

  index_rises : (a b p : X) (r : Ordering) → IsLess a b → order b p ≡ r → ordering_index (order a p) ≤ ordering_index r
  index_rises a b p Less less is = let here = ap ordering_index (less_before a b p Less less is (omega arith)) in omega (arith, here)
  index_rises a b p Equal less is = let here = ap ordering_index (less_before a b p Equal less is (omega arith)) in omega (arith, here)
  index_rises a b p Greater less is = index_small (order a p)

  -- the answers of a search for an item rise
  pub answers_rise : (p : X) (ts : List Tally) → IsRisingBy order ts → IsNonDecreasingBy (λ (t : Tally). ordering_index (order t.item p)) ts
  answers_rise p ts h i j d upto within = elim (cases_lt i j) [
    | inl less ↦ index_rises (get_or ts i d).item (get_or ts j d).item p _ (rises ts i j d h less within) refl
    | inr more ↦
        let same : i ≡ j = omega (arith, upto, more) in
        let both = ap (λ (n : ℕ). ordering_index (order (get_or ts n d).item p)) same in
        omega (arith, both)
  ]

  -- an item that a search found
  pub found_counted : (p : X) (ts us : List Tally) (i : ℕ) (t new : Tally) → us ≡ ts → IsRisingBy order ts → i < length us
      → HoldsAt (λ (u : Tally). order u.item p ≡ Equal) us i → t ≡ get_or ts i t → new ≡ raised t → slice_set ts i new ≡ counted_by order p ts
  found_counted p ts us i t new same h within is at after =
      let here : order (get_or ts i t).item p ≡ Equal = subst (λ (l : List Tally). order (get_or l i t).item p ≡ Equal) same (is t) in
      let inside : i < length ts = subst (λ (l : List Tally). i < length l) same within in
      let set_same : new ≡ raised (get_or ts i t) = after ∙ ap raised at in
      ap (slice_set ts i) set_same
      ∙ sym (counted_there p ts i t inside (λ k less. less_before (get_or ts k t).item (get_or ts i t).item p Equal (rises ts k i t h less inside) here (omega arith)) here)

  -- an item that it did not find
  pub missing_counted : (p : X) (ts us : List Tally) (i : ℕ) (after : List Tally) → us ≡ ts → IsRisingBy order ts → i ≤ length us
      → (IsNonDecreasingBy (λ (u : Tally). ordering_index (order u.item p)) us
      → IsPartitionPoint (λ (u : Tally). order u.item p ≡ Less) (λ (u : Tally). order u.item p ≡ Greater) us i)
      → after ≡ insert ts i (new_tally p) → after ≡ counted_by order p ts
  missing_counted p ts us i after same h within found is =
      let inside : i ≤ length ts = subst (λ (l : List Tally). i ≤ length l) same within in
      let parted : IsPartitionPoint (λ (u : Tally). order u.item p ≡ Less) (λ (u : Tally). order u.item p ≡ Greater) ts i =
      subst (λ (l : List Tally). IsPartitionPoint (λ (u : Tally). order u.item p ≡ Less) (λ (u : Tally). order u.item p ≡ Greater) l i) same
      (found (subst (λ (l : List Tally). IsNonDecreasingBy (λ (u : Tally). ordering_index (order u.item p)) l) (sym same) (answers_rise p ts h))) in
      is ∙ sym (counted_new p ts i (new_tally p) inside (λ k less. parted.0 k (new_tally p) (omega arith) less) (λ k more less. parted.1 k (new_tally p) more less))
