-- What is left of each item where tallies are counted and taken from.
use Rattle.std.proofs.Common.{List, [], ap, arith, refl, sym, ℕ, ◌+◌, ◌-◌, ◌∙◌, ◌∷◌, ◌≡◌}
use Rattle.std.specs.Cmp.{alike_right}
use Rattle.std.specs.List.{fold}
use Rattle.std.specs.Ordering.{is_eq}
use Rattle.std.specs.Prelude.{if◌then◌else◌}
use Rattle.std.specs.declared.cmp.Ordering.{Ordering}
use Rattle.std.specs.declared.cmp.Ordering.TheVariants.{Equal, Greater, Less}
use Rattle.sw_output.proofs.Order.{turned}
use Rattle.sw_output.specs.Counting.{counted_at}
use Rattle.sw_summary.specs.Items.{Item, times}
use Rattle.sw_summary.specs.KeyCounts.{KeyCountView, counted, item_order, key_counts, left, left_at, taken, taken_all, taken_at}
use Rattle.sw_summary.proofs.Order.{item_order_total}
use Rattle.sw_summary.proofs.Same.{one, same_tied, times_cons}

abbrev tied : Ordering → ℕ
tied r = if is_eq r then 1 else 0

one_is : (p q : Item) (r : Ordering) → item_order p q ≡ r → one p q ≡ tied r
one_is p q r is = ap (λ b. if b then 1 else 0) (same_tied p q ∙ ap is_eq is)

-- p and q, of which q is counted or taken where t is the first tally, and what the tallies behind it have of p
module _ (p q : Item) (t : KeyCountView) (rest : ℕ) where
  abbrev here : ℕ
  here = left_at p (item_order p t.item) t rest

  -- q comes before t
  nothing : item_order p t.item ≡ Less → here ≡ 0
  nothing is = ap (λ (r : Ordering). left_at p r t rest) is

  taken_before : item_order q t.item ≡ Less → (u : Ordering) → item_order p q ≡ u → here ≡ here - one p q
  taken_before is Less at = let none = one_is p q Less at in omega (arith, none)
  taken_before is Equal at = let none = nothing (item_order_total.congr p q t.item at ∙ is) in omega (arith, none)
  taken_before is Greater at = let none = one_is p q Greater at in omega (arith, none)

  counted_before : item_order q t.item ≡ Less → (u : Ordering) → item_order p q ≡ u → left_at p u (record { item = q; count = 1 }) here ≡ here + one p q
  counted_before is Less at = let none = nothing (item_order_total.trans p q t.item at is) in let other = one_is p q Less at in omega (arith, none, other)
  counted_before is Equal at = let none = nothing (item_order_total.congr p q t.item at ∙ is) in let same = one_is p q Equal at in omega (arith, none, same)
  counted_before is Greater at = let other = one_is p q Greater at in omega (arith, other)

  -- q is t's item
  alike : item_order q t.item ≡ Equal → one p q ≡ tied (item_order p t.item)
  alike is = one_is p q (item_order p t.item) (alike_right item_order_total q t.item p is)

  lowered : (s : Ordering) → left_at p s (record t { count = t.count - 1 }) rest ≡ left_at p s t rest - tied s
  lowered Less = omega arith
  lowered Equal = refl
  lowered Greater = omega arith

  raised : (s : Ordering) → left_at p s (record t { count = t.count + 1 }) rest ≡ left_at p s t rest + tied s
  raised Less = omega arith
  raised Equal = refl
  raised Greater = omega arith

  -- q comes after t
  behind_same : item_order q t.item ≡ Greater → item_order p t.item ≡ Equal → one p q ≡ 0
  behind_same is at = one_is p q Less (item_order_total.congr p t.item q at ∙ turned item_order_total t.item q Greater is)

  behind_less : item_order q t.item ≡ Greater → item_order p t.item ≡ Less → one p q ≡ 0
  behind_less is at = one_is p q Less (item_order_total.trans p t.item q at (turned item_order_total t.item q Greater is))

  taken_behind : item_order q t.item ≡ Greater → (after : ℕ) → after ≡ rest - one p q → (s : Ordering) → item_order p t.item ≡ s
      → left_at p s t after ≡ left_at p s t rest - one p q
  taken_behind is after more Less at = omega arith
  taken_behind is after more Equal at = let none = behind_same is at in omega (arith, none)
  taken_behind is after more Greater at = more

  counted_behind : item_order q t.item ≡ Greater → (after : ℕ) → after ≡ rest + one p q → (s : Ordering) → item_order p t.item ≡ s
      → left_at p s t after ≡ left_at p s t rest + one p q
  counted_behind is after more Less at = let none = behind_less is at in omega (arith, none)
  counted_behind is after more Equal at = let none = behind_same is at in omega (arith, none)
  counted_behind is after more Greater at = more

-- one taken
pub left_taken : (p q : Item) (ts : List KeyCountView) → left p (taken q ts) ≡ left p ts - one p q
left_taken p q [] = omega arith
left_taken p q (t ∷ ts) = go (item_order q t.item) refl (left_taken p q ts)
  where
    go : (r : Ordering) → item_order q t.item ≡ r → left p (taken q ts) ≡ left p ts - one p q → left p (taken_at q r t ts (taken q ts)) ≡ left p (t ∷ ts) - one p q
    go Less is more = taken_before p q t (left p ts) is (item_order p q) refl
    go Equal is more = lowered p q t (left p ts) (item_order p t.item) ∙ ap (λ n. left p (t ∷ ts) - n) (sym (alike p q t (left p ts) is))
    go Greater is more = taken_behind p q t (left p ts) is (left p (taken q ts)) more (item_order p t.item) refl

-- one counted
left_counted : (p q : Item) (ts : List KeyCountView) → left p (counted q ts) ≡ left p ts + one p q
left_counted p q [] = alone (item_order p q) ∙ ap (λ n. 0 + n) (sym (one_is p q (item_order p q) refl))
  where
    alone : (u : Ordering) → left_at p u (record { item = q; count = 1 }) 0 ≡ 0 + tied u
    alone Less = omega arith
    alone Equal = omega arith
    alone Greater = omega arith
left_counted p q (t ∷ ts) = go (item_order q t.item) refl (left_counted p q ts)
  where
    go : (r : Ordering) → item_order q t.item ≡ r → left p (counted q ts) ≡ left p ts + one p q
        → left p (counted_at q r t ts (counted q ts)) ≡ left p (t ∷ ts) + one p q
    go Less is more = counted_before p q t (left p ts) is (item_order p q) refl
    go Equal is more = raised p q t (left p ts) (item_order p t.item) ∙ ap (λ n. left p (t ∷ ts) + n) (sym (alike p q t (left p ts) is))
    go Greater is more = counted_behind p q t (left p ts) is (left p (counted q ts)) more (item_order p t.item) refl

left_taken_all : (p : Item) (items : List Item) (ts : List KeyCountView) → left p (taken_all ts items) ≡ left p ts - times p items
left_taken_all p [] ts = omega arith
left_taken_all p (x ∷ xs) ts =
    let rest = left_taken_all p xs (taken x ts) in
    let here = left_taken p x ts in
    let sum = times_cons p x xs in
    omega (arith, rest, here, sum)

left_from : (p : Item) (items : List Item) (ts : List KeyCountView) → left p (fold (λ us q. counted q us) ts items) ≡ left p ts + times p items
left_from p [] ts = omega arith
left_from p (x ∷ xs) ts =
    let rest = left_from p xs (counted x ts) in
    let here = left_counted p x ts in
    let sum = times_cons p x xs in
    omega (arith, rest, here, sum)

-- what is left of an item, where these came out and those took one each
pub left_is : (p : Item) (came before : List Item) → left p (taken_all (key_counts came) before) ≡ times p came - times p before
left_is p came before =
    let start : left p (key_counts came) ≡ 0 + times p came = left_from p came [] in
    let rest = left_taken_all p before (key_counts came) in
    omega (arith, start, rest)
