-- Keys that are counted one after another.
use Rattle.std.proofs.Common.{Fits, List, [], ap, arith, get_or, length, slice_set, subst, sym, take, w64, ℕ, ◌++◌, ◌+◌, ◌<◌, ◌≤◌, ◌∙◌, ◌∷◌, ◌≡◌}
use Rattle.std.proofs.lemmas.List.{take_more}
use Rattle.std.proofs.lemmas.List.Sums.{fold-append}
use Rattle.std.specs.List.{HoldsAt, insert}
use Rattle.std.specs.List.Sorted.{IsNonDecreasingBy, IsPartitionPoint}
use Rattle.std.specs.Ordering.{ordering_index}
use Rattle.std.specs.declared.cmp.Ordering.TheVariants.{Equal, Greater, Less}
use Rattle.sw_output.proofs.Counts.{tallies_fit, tallies_rise}
use Rattle.sw_output.proofs.Order.{found_counted, missing_counted}
use Rattle.sw_summary.specs.Items.{Item}
use Rattle.sw_summary.specs.KeyCounts.{IsRising, KeyCountView, counted, item_order, key_counts}
use Rattle.sw_summary.proofs.Order.{item_order_total}

-- the keys before key k are counted, and key k is x
module _ (keys : List Item) (k : ℕ) (x : Item) (ts : List KeyCountView) (within : k < length keys) (at : x ≡ get_or keys k x) (so_far : ts ≡ key_counts (take k keys)) where
  rising : IsRising ts
  rising = subst IsRising (sym so_far) (tallies_rise item_order_total (take k keys))

  counted_more : (after : List KeyCountView) → after ≡ counted x ts → after ≡ key_counts (take (k + 1) keys)
  counted_more after is =
      is ∙ ap (counted x) so_far
      ∙ sym (ap key_counts (take_more keys k x within ∙ ap (λ y. take k keys ++ y ∷ []) (sym at)) ∙ fold-append (λ ts p. counted p ts) [] (take k keys) (x ∷ []))

  -- one more of a key that is there
  pub counted_old : (us after : List KeyCountView) (i : ℕ) (t new : KeyCountView) → us ≡ ts → i < length us → HoldsAt (λ (u : KeyCountView). item_order u.item x ≡ Equal) us i → t ≡ get_or ts i t
      → new ≡ record t { count = t.count + 1 } → after ≡ slice_set ts i new → after ≡ key_counts (take (k + 1) keys)
  counted_old us after i t new same inside holds here more is =
      counted_more after (is ∙ found_counted item_order_total x ts us i t new same rising inside holds here more)

  -- a key that is not there yet
  pub counted_new : (us after : List KeyCountView) (i : ℕ) (p : Item) → us ≡ ts → i ≤ length us
      → (IsNonDecreasingBy (λ (u : KeyCountView). ordering_index (item_order u.item x)) us
      → IsPartitionPoint (λ (u : KeyCountView). item_order u.item x ≡ Less) (λ (u : KeyCountView). item_order u.item x ≡ Greater) us i)
      → p ≡ x → after ≡ insert ts i (record { item = p; count = 1 }) → after ≡ key_counts (take (k + 1) keys)
  counted_new us after i p same inside parted known is =
      counted_more after
      (missing_counted item_order_total x ts us i after same rising inside parted (is ∙ ap (λ (q : Item). insert ts i (record { item = q; count = 1 })) known))

  -- the count fits with one more
  pub count_fits : (us : List KeyCountView) (i count : ℕ) (t : KeyCountView) → length keys < 18446744073709551616 → us ≡ ts → i < length us → t ≡ get_or ts i t → count ≡ t.count
      → Fits w64 (count + 1)
  count_fits us i count t fits same inside here is =
      let all = tallies_fit item_order_total keys k 18446744073709551616 within fits in
      let room : i < length (key_counts (take k keys)) = subst (λ (l : List KeyCountView). i < length l) (same ∙ so_far) inside in
      let there : (get_or ts i t).count + 1 < 18446744073709551616 = subst (λ (l : List KeyCountView). (get_or l i t).count + 1 < 18446744073709551616) (sym so_far) (all i t room) in
      let more : count + 1 < 18446744073709551616 = subst (λ n. n + 1 < 18446744073709551616) (sym (is ∙ ap (λ (u : KeyCountView). u.count) here)) there in
      omega (arith, more)
