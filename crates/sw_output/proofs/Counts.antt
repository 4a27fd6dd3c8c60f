-- Tallies of lists, in a total order of their items.
use Rattle.std.proofs.Common.{◌≡◌, ◌∙◌, ◌<◌, ◌≤◌, ◌+◌, ℕ, suc, List, [], ◌∷◌, ap, arith, length, map, refl, length-take-le, subst, take}
use Rattle.std.proofs.lemmas.List.Elements.{All-cons, All-nil}
use Rattle.std.specs.Cmp.{IsTotalOrder}
use Rattle.std.specs.List.{All, AllByRecursion, fold}
use Rattle.std.specs.List.Sorted.{IsStrictlySortedBy}
use Rattle.std.specs.declared.cmp.Ordering.{Ordering}
use Rattle.std.specs.declared.cmp.Ordering.TheVariants.{Less, Equal, Greater}
use Rattle.std.specs.Ordering.{ordering_reverse}
use Rattle.sw_output.specs.Counting.{IsRisingBy, TallyOf, counted_at, counted_by, tallies_by}

module _ {X : Type 0} {order : X → X → Ordering} (total : IsTotalOrder order) where
  abbrev Tally : Type 0
  Tally = TallyOf X

  abbrev IsLess : X → X → Type 0
  IsLess p q = order p q ≡ Less

  abbrev key : Tally → X
  key t = t.item

  -- less than the first, and so than all
  less_than_all : (p x : X) (ts : List Tally) → IsLess p x → AllByRecursion (IsLess x) (map key ts) → AllByRecursion (IsLess p) (map key ts)
  less_than_all p x [] less all = tt
  less_than_all p x (t ∷ ts) less all = (total.trans p x t.item less all.0, less_than_all p x ts less all.1)

  -- less than all, one more counted
  less_than_counted : (x p : X) (ts : List Tally) → IsLess x p → AllByRecursion (IsLess x) (map key ts) → AllByRecursion (IsLess x) (map key (counted_by order p ts))
  less_than_counted x p [] less all = (less, tt)
  less_than_counted x p (t ∷ ts) less all = go (order p t.item) (less_than_counted x p ts less all.1)
    where
      go : (r : Ordering) → AllByRecursion (IsLess x) (map key (counted_by order p ts)) → AllByRecursion (IsLess x) (map key (counted_at p r t ts (counted_by order p ts)))
      go Less rest = (less, all)
      go Equal rest = all
      go Greater rest = (all.0, rest)

  counted_rising : (p : X) (ts : List Tally) → IsRisingBy order ts → IsRisingBy order (counted_by order p ts)
  unfolding IsStrictlySortedBy
  counted_rising p [] h = (tt, tt)
  counted_rising p (t ∷ ts) h = go (order p t.item) refl (counted_rising p ts h.1)
    where
      go : (r : Ordering) → order p t.item ≡ r → IsRisingBy order (counted_by order p ts) → IsRisingBy order (counted_at p r t ts (counted_by order p ts))
      go Less is rest = ((is, less_than_all p t.item ts is h.0), h)
      go Equal is rest = h
      go Greater is rest =
          let less : IsLess t.item p = total.antisymm t.item p ∙ ap ordering_reverse is in
          (less_than_counted t.item p ts less h.0, rest)

  from_rising : (ts : List Tally) (items : List X) → IsRisingBy order ts → IsRisingBy order (fold (λ ts p. counted_by order p ts) ts items)
  from_rising ts [] h = h
  from_rising ts (p ∷ ps) h = from_rising (counted_by order p ts) ps (counted_rising p ts h)

  none_rising : IsRisingBy order []
  unfolding IsStrictlySortedBy
  none_rising = tt

  pub tallies_rise : (items : List X) → IsRisingBy order (tallies_by order items)
  tallies_rise items = from_rising [] items none_rising

  abbrev AreUpTo : ℕ → List Tally → Type 0
  AreUpTo n ts = All (λ (t : Tally). t.count ≤ n) ts

  counted_up_to : (n : ℕ) (p : X) (ts : List Tally) → AreUpTo n ts → AreUpTo (n + 1) (counted_by order p ts)
  counted_up_to n p [] h = All-cons (λ (t : Tally). t.count ≤ n + 1) (record { item = p; count = 1 }) [] (omega arith) (All-nil _)
  counted_up_to n p (t ∷ ts) h = go (order p t.item) (counted_up_to n p ts rest)
    where
      more : (us : List Tally) → AreUpTo n us → AreUpTo (n + 1) us
      more us all k d within = (let here = all k d within in omega (arith, here))

      first : t.count ≤ n
      first = h 0 t (omega arith)

      rest : AreUpTo n ts
      rest k d within = h (suc k) d (omega (arith, within))

      go : (r : Ordering) → AreUpTo (n + 1) (counted_by order p ts) → AreUpTo (n + 1) (counted_at p r t ts (counted_by order p ts))
      go Less later = All-cons (λ (u : Tally). u.count ≤ n + 1) (record { item = p; count = 1 }) (t ∷ ts) (omega arith) (more (t ∷ ts) h)
      go Equal later = All-cons (λ (u : Tally). u.count ≤ n + 1) (record t { count = t.count + 1 }) ts (omega (arith, first)) (more ts rest)
      go Greater later = All-cons (λ (u : Tally). u.count ≤ n + 1) t (counted_by order p ts) (omega (arith, first)) later

  from_up_to : (n m : ℕ) (ts : List Tally) (items : List X) → AreUpTo n ts → n + length items ≡ m → AreUpTo m (fold (λ ts p. counted_by order p ts) ts items)
  from_up_to n m ts [] h is = let same : n ≡ m = omega (arith, is) in subst (λ (k : ℕ). AreUpTo k ts) same h
  from_up_to n m ts (p ∷ ps) h is = from_up_to (n + 1) m (counted_by order p ts) ps (counted_up_to n p ts h) (omega (arith, is))

  -- no item is counted more often than there are items
  pub tallies_up_to : (items : List X) → AreUpTo (length items) (tallies_by order items)
  tallies_up_to items = from_up_to 0 (length items) [] items (All-nil _) (omega arith)

  -- fewer items than a count has room for
  pub tallies_fit : (items : List X) (i room : ℕ) → i < length items → length items < room → All (λ (t : Tally). t.count + 1 < room) (tallies_by order (take i items))
  tallies_fit items i room within fits k d here =
      let upto = tallies_up_to (take i items) k d here in
      let size : length (take i items) ≡ i = length-take-le i items (omega (arith, within)) in
      omega (arith, upto, size, within, fits)
