-- What is left where items take one each.
use Rattle.std.proofs.Common.{◌≡◌, ◌∙◌, ◌<◌, ◌≤◌, ◌+◌, ◌-◌, ℕ, suc, zero, List, [], ◌∷◌, ◌++◌, ap, arith, get_or, length, map, refl, slice_set, subst, sym}
use Rattle.std.proofs.lemmas.Bool.Decides.{nat_tests}
use Rattle.std.proofs.lemmas.List.{length-map}
use Rattle.std.specs.Prelude.{if◌then◌else◌, min, nat_lt}
use Rattle.std.specs.Cmp.{tied_back}
use Rattle.std.specs.List.{HoldsAt}
use Rattle.std.specs.List.Sorted.{IsNonDecreasingBy, IsPartitionPoint, IsStrictlySortedBy}
use Rattle.std.specs.Ordering.{ordering_index}
use Rattle.std.specs.declared.cmp.Ordering.{Ordering}
use Rattle.std.specs.declared.cmp.Ordering.TheVariants.{Less, Equal, Greater}
use Rattle.sw_summary.specs.Items.{Item}
use Rattle.sw_summary.specs.KeyCounts.{IsRising, KeyCountView, found, item_order, left, left_at, taken, taken_all, taken_at}
use Rattle.sw_output.proofs.Order.{answers_rise, less_before, rises, turned}
use Rattle.sw_summary.proofs.Order.{item_order_total}

abbrev IsLess : Item → Item → Type 0
IsLess p q = item_order p q ≡ Less

abbrev lower_one : KeyCountView → KeyCountView
lower_one t = record t { count = t.count - 1 }

-- an item that stands at i
taken_there : (p : Item) (ts : List KeyCountView) (i : ℕ) (d : KeyCountView) → i < length ts
    → ((k : ℕ) → k < i → IsLess (get_or ts k d).item p) → item_order (get_or ts i d).item p ≡ Equal
    → (taken p ts ≡ slice_set ts i (lower_one (get_or ts i d))) × (left p ts ≡ (get_or ts i d).count)
taken_there p [] i d within below here = absurd (omega (arith, within))
taken_there p (t ∷ ts) zero d within below here =
    let first = tied_back item_order_total t.item p here in
    (ap (λ (r : Ordering). taken_at p r t ts (taken p ts)) first, ap (λ (r : Ordering). left_at p r t (left p ts)) first)
taken_there p (t ∷ ts) (suc i) d within below here =
    let first : IsLess t.item p = below 0 (omega arith) in
    let rest = taken_there p ts i d (omega (arith, within)) (λ k less. below (suc k) (omega (arith, less))) here in (
      ap (λ (r : Ordering). taken_at p r t ts (taken p ts)) (turned item_order_total p t.item Less first) ∙ ap (λ (l : List KeyCountView). t ∷ l) rest.0,
      ap (λ (r : Ordering). left_at p r t (left p ts)) (turned item_order_total p t.item Less first) ∙ rest.1,
    )

-- an item that stands nowhere
taken_nowhere : (p : Item) (ts : List KeyCountView) (i : ℕ) (d : KeyCountView) → i ≤ length ts
    → ((k : ℕ) → k < i → IsLess (get_or ts k d).item p) → ((k : ℕ) → i ≤ k → k < length ts → item_order (get_or ts k d).item p ≡ Greater)
    → (taken p ts ≡ ts) × (left p ts ≡ 0)
taken_nowhere p [] i d within below above = (refl, refl)
taken_nowhere p (t ∷ ts) zero d within below above =
    let first : item_order t.item p ≡ Greater = above 0 (omega arith) (omega arith) in
    (ap (λ (r : Ordering). taken_at p r t ts (taken p ts)) (turned item_order_total p t.item Greater first), ap (λ (r : Ordering). left_at p r t (left p ts)) (turned item_order_total p t.item Greater first))
taken_nowhere p (t ∷ ts) (suc i) d within below above =
    let first : IsLess t.item p = below 0 (omega arith) in
    let rest = taken_nowhere p ts i d (omega (arith, within)) (λ k less. below (suc k) (omega (arith, less))) (λ k more less. above (suc k) (omega (arith, more)) (omega (arith, less))) in (
      ap (λ (r : Ordering). taken_at p r t ts (taken p ts)) (turned item_order_total p t.item Less first) ∙ ap (λ (l : List KeyCountView). t ∷ l) rest.0,
      ap (λ (r : Ordering). left_at p r t (left p ts)) (turned item_order_total p t.item Less first) ∙ rest.1,
    )

-- one fewer, where there is one
pub fewer_small : (n count : ℕ) → n ≡ (if nat_lt 0 count then 1 else 0) → n ≤ 1
fewer_small n zero is = omega (arith, is)
fewer_small n (suc count) is = grind (arith, nat_tests)

-- what a search and a write at what it found leave
pub record IsTaken (p : Item) (ts after : List KeyCountView) (n : ℕ) : Type 0 where
  pub lowered : n ≡ (if nat_lt 0 (left p ts) then 1 else 0)
  pub fewer : after ≡ taken p ts
  pub rising : IsRising after
  pub few : n ≤ 1

taken_items : (p : Item) (ts : List KeyCountView) → map (λ (t : KeyCountView). t.item) (taken p ts) ≡ map (λ (t : KeyCountView). t.item) ts
taken_items p [] = refl
taken_items p (t ∷ ts) = go (item_order p t.item) (taken_items p ts)
  where
    go : (r : Ordering) → map (λ (t : KeyCountView). t.item) (taken p ts) ≡ map (λ (t : KeyCountView). t.item) ts
        → map (λ (t : KeyCountView). t.item) (taken_at p r t ts (taken p ts)) ≡ map (λ (t : KeyCountView). t.item) (t ∷ ts)
    go Less h = refl
    go Equal h = refl
    go Greater h = ap (λ (l : List Item). t.item ∷ l) h

pub taken_rises : (p : Item) (ts : List KeyCountView) → IsRising ts → IsRising (taken p ts)
taken_rises p ts h = subst (IsStrictlySortedBy item_order) (sym (taken_items p ts)) h

is_taken : (p : Item) (ts after : List KeyCountView) (n count : ℕ) → IsRising ts → n ≡ (if nat_lt 0 count then 1 else 0) → count ≡ left p ts → after ≡ taken p ts → IsTaken p ts after n
is_taken p ts after n count h is same all = record {
  lowered = is ∙ ap (λ (k : ℕ). if nat_lt 0 k then 1 else 0) same;
  fewer = all;
  rising = subst IsRising (sym all) (taken_rises p ts h);
  few = fewer_small n count is;
}

-- an item that a search found
found_taken : (p : Item) (ts : List KeyCountView) (i : ℕ) (d new : KeyCountView) (n : ℕ) → IsRising ts → i < length ts
    → HoldsAt (λ (u : KeyCountView). item_order u.item p ≡ Equal) ts i → n ≡ (if nat_lt 0 (get_or ts i d).count then 1 else 0) → new ≡ lower_one (get_or ts i d)
    → IsTaken p ts (slice_set ts i new) n
found_taken p ts i d new n h within is count after =
    let here : item_order (get_or ts i d).item p ≡ Equal = is d in
    let there = taken_there p ts i d within (λ k less. less_before item_order_total (get_or ts k d).item (get_or ts i d).item p Equal (rises item_order_total ts k i d h less within) here (omega arith)) here in
    is_taken p ts (slice_set ts i new) n (get_or ts i d).count h count (sym there.1) (ap (slice_set ts i) after ∙ sym there.0)

min_one : (n : ℕ) → min n 1 ≡ (if nat_lt 0 n then 1 else 0)
min_one zero = omega arith
min_one (suc n) = grind (arith, nat_tests)

-- the same where the count there is lowered in place
pub found_lowered : (p : Item) (ts : List KeyCountView) (i : ℕ) (t u : KeyCountView) (n low : ℕ) → IsRising ts → i < length ts → HoldsAt (λ (v : KeyCountView). item_order v.item p ≡ Equal) ts i
    → u ≡ get_or ts i t → n ≡ min u.count 1 → low ≡ u.count - 1 → IsTaken p ts (slice_set ts i (record u { count = low })) n
found_lowered p ts i t u n low h within holds here least lowers =
    found_taken p ts i t (record u { count = low }) n h within holds (least ∙ min_one u.count ∙ ap (λ (v : KeyCountView). if nat_lt 0 v.count then 1 else 0) here)
    (ap (λ k. record u { count = k }) lowers ∙ ap lower_one here)

-- an item that it did not find
pub missing_taken : (p : Item) (ts : List KeyCountView) (i : ℕ) → IsRising ts → i ≤ length ts
    → (IsNonDecreasingBy (λ (u : KeyCountView). ordering_index (item_order u.item p)) ts
    → IsPartitionPoint (λ (u : KeyCountView). item_order u.item p ≡ Less) (λ (u : KeyCountView). item_order u.item p ≡ Greater) ts i)
    → IsTaken p ts ts 0
missing_taken p ts i h within found_by =
    let parted = found_by (answers_rise item_order_total p ts h) in
    let d : KeyCountView = record { item = p; count = 0 } in
    let nowhere = taken_nowhere p ts i d within (λ k less. parted.0 k d (omega arith) less) (λ k more less. parted.1 k d more less) in
    is_taken p ts ts 0 0 h refl (sym nowhere.1) (sym nowhere.0)

pub taken_all_rises : (items : List Item) (ts : List KeyCountView) → IsRising ts → IsRising (taken_all ts items)
taken_all_rises [] ts h = h
taken_all_rises (p ∷ ps) ts h = taken_all_rises ps (taken p ts) (taken_rises p ts h)

taken_long : (p : Item) (ts : List KeyCountView) → length (taken p ts) ≡ length ts
taken_long p ts =
    let item : KeyCountView → Item = λ t. t.item in
    sym (length-map (taken p ts) item) ∙ ap length (taken_items p ts) ∙ length-map ts item

pub taken_all_long : (items : List Item) (ts : List KeyCountView) → length (taken_all ts items) ≡ length ts
taken_all_long [] ts = refl
taken_all_long (p ∷ ps) ts = taken_all_long ps (taken p ts) ∙ taken_long p ts

-- some and more
pub taken_append : (xs ys : List Item) (ts : List KeyCountView) → taken_all ts (xs ++ ys) ≡ taken_all (taken_all ts xs) ys
taken_append [] ys ts = refl
taken_append (x ∷ xs) ys ts = taken_append xs ys (taken x ts)

-- one item more
pub found_more : (ts : List KeyCountView) (ps : List Item) (p : Item) → found ts (ps ++ p ∷ []) ≡ found ts ps + (if nat_lt 0 (left p (taken_all ts ps)) then 1 else 0)
found_more ts [] p = omega arith
found_more ts (q ∷ qs) p = let rest = found_more (taken q ts) qs p in omega (arith, rest)

pub taken_more : (ts : List KeyCountView) (ps : List Item) (p : Item) → taken_all ts (ps ++ p ∷ []) ≡ taken p (taken_all ts ps)
taken_more ts [] p = refl
taken_more ts (q ∷ qs) p = taken_more (taken q ts) qs p

-- one item more takes its own
pub one_taken : (start ts after : List KeyCountView) (items more : List Item) (p : Item) (count one : ℕ) → more ≡ items ++ p ∷ [] → count ≡ found start items
    → ts ≡ taken_all start items → one ≡ (if nat_lt 0 (left p ts) then 1 else 0) → after ≡ taken p ts → (count + one ≡ found start more) × (after ≡ taken_all start more)
one_taken start ts after items more p count one same counted rest lowered fewer =
    let here : one ≡ (if nat_lt 0 (left p (taken_all start items)) then 1 else 0) = lowered ∙ ap (λ (us : List KeyCountView). if nat_lt 0 (left p us) then 1 else 0) rest in
    let total : count + one ≡ found start (items ++ p ∷ []) = let next = found_more start items p in omega (arith, next, here, counted) in
    (total ∙ ap (found start) (sym same), fewer ∙ ap (taken p) rest ∙ sym (taken_more start items p) ∙ ap (taken_all start) (sym same))
