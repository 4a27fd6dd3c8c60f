-- First refusals of lists, and what lists keep.
use Rattle.std.proofs.Common.{◌≡◌, ℕ, zero, suc, ◌+◌, ◌<◌, ◌≤◌, ◌&&◌, ◌||◌, Bool, true, false, cond, List, [], ◌∷◌, length, drop, drop-cons, get_or, Option, Some, None, option_map, Contains, refl, sym, ap, ◌∙◌, subst, ◌⊎◌, inl, inr, arith}
use Rattle.std.specs.Prelude.{slice_get}
use Rattle.std.specs.List.{list_all}
use Rattle.std.proofs.lemmas.Bool.{cases_eq, eq-eqb, ne_eqb}
use Rattle.sw_topo.specs.Checked.{first_of}
use Rattle.sw_config.specs.Entries.{FlowEntry}
use Rattle.sw_flow.specs.declared.place.Place.{Place}
use Rattle.sw_flow.proofs.Listed.{Contains-head, Contains-later, Contains-cases}
use Rattle.sw_cert.specs.declared.refusal.Refusal.{Refusal}
use Rattle.sw_cert.specs.Refusals.{first_refusal, by_flow, is_same, is_listed}

-- ---- options

module _ {X : Type 0} where
  pub first_none : (a b : Option X) → first_of a b ≡ None → (a ≡ None) × (b ≡ None)
  first_none None b h = (refl, h)
  first_none (Some x) b h = absurd (let bad : Some x ≡ None = h in cc)

  pub both_none : (a b : Option X) → a ≡ None → b ≡ None → first_of a b ≡ None
  both_none None b ha hb = hb
  both_none (Some x) b ha hb = ha

  pub unless_none : (b : Bool) (x : X) → cond b None (Some x) ≡ None → b ≡ true
  unless_none true x h = refl
  unless_none false x h = absurd (let bad : Some x ≡ None = h in cc)

  pub none_unless : (b : Bool) (x : X) → b ≡ true → cond b None (Some x) ≡ None
  none_unless true x h = refl
  none_unless false x h = absurd cc

pub none_mapped : {X Y : Type 0} (g : X → Y) (o : Option X) → o ≡ None → option_map g o ≡ None
none_mapped g None h = refl
none_mapped g (Some x) h = absurd cc

-- ---- each element

module _ {X : Type 0} where
  pub none_refused : (r : X → Option Refusal) (xs : List X) → first_refusal r xs ≡ None → (x : X) → Contains xs x → r x ≡ None
  none_refused r [] h x m = absurd (omega (arith, m.1))
  none_refused r (y ∷ ys) h x m = by (Contains-cases y x ys m) (first_none (r y) (first_refusal r ys) h) (none_refused r ys)
    where
      by : (y ≡ x) ⊎ Contains ys x → (r y ≡ None) × (first_refusal r ys ≡ None) → (first_refusal r ys ≡ None → (z : X) → Contains ys z → r z ≡ None) → r x ≡ None
      by (inl same) both rest = subst (λ (z : X). r z ≡ None) same both.0
      by (inr later) both rest = rest both.1 x later

  pub refused_none : (r : X → Option Refusal) (xs : List X) → ((x : X) → Contains xs x → r x ≡ None) → first_refusal r xs ≡ None
  refused_none r [] each = refl
  refused_none r (y ∷ ys) each = both_none (r y) (first_refusal r ys) (each y (Contains-head y ys)) (refused_none r ys (λ x m. each x (Contains-later y x ys m)))

  -- one element after another
  pub one_refused : (r : X → Option Refusal) (xs : List X) (i : ℕ) (x : X) (o : Option Refusal) → i < length xs → x ≡ get_or xs i x → o ≡ r x → first_refusal r (drop i xs) ≡ first_of o (first_refusal r (drop (i + 1) xs))
  one_refused r xs i x o lt is told =
      let next : suc i ≡ i + 1 = omega arith in
      let cut : drop i xs ≡ x ∷ drop (i + 1) xs = drop-cons xs i x lt ∙ ap (λ y. y ∷ drop (suc i) xs) (sym is) ∙ ap (λ k. x ∷ drop k xs) next in
      ap (first_refusal r) cut ∙ ap (λ (p : Option Refusal). first_of p (first_refusal r (drop (i + 1) xs))) (sym told)

  -- one element's test after another's
  pub one_tested : (test : X → Bool) (xs : List X) (i : ℕ) (x : X) (b : Bool) → i < length xs → x ≡ get_or xs i x → b ≡ test x → list_all test (drop i xs) ≡ (b && list_all test (drop (i + 1) xs))
  one_tested test xs i x b lt is told =
      let next : suc i ≡ i + 1 = omega arith in
      let cut : drop i xs ≡ x ∷ drop (i + 1) xs = drop-cons xs i x lt ∙ ap (λ y. y ∷ drop (suc i) xs) (sym is) ∙ ap (λ k. x ∷ drop k xs) next in
      ap (list_all test) cut ∙ ap (λ (c : Bool). c && list_all test (drop (i + 1) xs)) (sym told)

  pub all_each : (test : X → Bool) (xs : List X) → list_all test xs ≡ true → (x : X) → Contains xs x → test x ≡ true
  all_each test [] h x m = absurd (omega (arith, m.1))
  all_each test (y ∷ ys) h x m = by (test y) refl h (Contains-cases y x ys m) (all_each test ys)
    where
      by : (b : Bool) → test y ≡ b → (b && list_all test ys) ≡ true → (y ≡ x) ⊎ Contains ys x → (list_all test ys ≡ true → (z : X) → Contains ys z → test z ≡ true) → test x ≡ true
      by false e bad s rest = absurd cc
      by true e all (inl same) rest = subst (λ (z : X). test z ≡ true) same e
      by true e all (inr later) rest = rest all x later

  pub each_all : (test : X → Bool) (xs : List X) → ((x : X) → Contains xs x → test x ≡ true) → list_all test xs ≡ true
  each_all test [] each = refl
  each_all test (y ∷ ys) each = rw (each y (Contains-head y ys)) (each_all test ys (λ x m. each x (Contains-later y x ys m)))

  -- the element at an index is in the list
  pub Contains-at : (xs : List X) (i : ℕ) (x : X) → slice_get xs i ≡ Some x → Contains xs x
  Contains-at [] i x h = absurd (let bad : None ≡ Some x = h in cc)
  Contains-at (y ∷ ys) zero x h = let same : y ≡ x = cc in subst (λ (z : X). Contains (y ∷ ys) z) same (Contains-head y ys)
  Contains-at (y ∷ ys) (suc i) x h = Contains-later y x ys (Contains-at ys i x h)

  -- what is in the list is at some index
  pub at_Contains : (xs : List X) (x : X) → Contains xs x → (i : ℕ) × (i < length xs) × (slice_get xs i ≡ Some x)
  at_Contains [] x m = absurd (omega (arith, m.1))
  at_Contains (y ∷ ys) x m = by (Contains-cases y x ys m) (at_Contains ys x)
    where
      by : (y ≡ x) ⊎ Contains ys x → (Contains ys x → (i : ℕ) × (i < length ys) × (slice_get ys i ≡ Some x)) → (i : ℕ) × (i < length (y ∷ ys)) × (slice_get (y ∷ ys) i ≡ Some x)
      by (inl same) rest = (0, omega arith, ap Some same)
      by (inr later) rest = let r = rest later in (suc r.0, omega (arith, r.1), r.2)

-- ---- flow by flow

pub none_by_flow : (r : ℕ → FlowEntry → List Place → Option Refusal) (j : ℕ) (fs : List FlowEntry) (pss : List (List Place)) → by_flow r j fs pss ≡ None
    → (i : ℕ) (f : FlowEntry) (ps : List Place) → slice_get fs i ≡ Some f → slice_get pss i ≡ Some ps → r (j + i) f ps ≡ None
none_by_flow r j [] pss h i f ps here there = absurd (let bad : None ≡ Some f = here in cc)
none_by_flow r j (g ∷ fs) [] h i f ps here there = absurd (let bad : None ≡ Some ps = there in cc)
none_by_flow r j (g ∷ fs) (qs ∷ pss) h zero f ps here there =
    let same : g ≡ f = cc in
    let list : qs ≡ ps = cc in
    let number : j + 0 ≡ j = omega arith in
    rw (number, ← same, ← list) (first_none (r j g qs) (by_flow r (suc j) fs pss) h).0
none_by_flow r j (g ∷ fs) (qs ∷ pss) h (suc i) f ps here there =
    let number : suc j + i ≡ j + suc i = omega arith in
    subst (λ (n : ℕ). r n f ps ≡ None) number (none_by_flow r (suc j) fs pss (first_none (r j g qs) (by_flow r (suc j) fs pss) h).1 i f ps here there)

pub by_flow_none : (r : ℕ → FlowEntry → List Place → Option Refusal) (j : ℕ) (fs : List FlowEntry) (pss : List (List Place))
    → ((i : ℕ) (f : FlowEntry) (ps : List Place) → slice_get fs i ≡ Some f → slice_get pss i ≡ Some ps → r (j + i) f ps ≡ None) → by_flow r j fs pss ≡ None
by_flow_none r j [] pss each = refl
by_flow_none r j (g ∷ fs) [] each = refl
by_flow_none r j (g ∷ fs) (qs ∷ pss) each =
    let number : j + 0 ≡ j = omega arith in
    both_none (r j g qs) (by_flow r (suc j) fs pss) (subst (λ (n : ℕ). r n g qs ≡ None) number (each 0 g qs refl refl))
    (by_flow_none r (suc j) fs pss (λ i f ps here there. let next : j + suc i ≡ suc j + i = omega arith in subst (λ (n : ℕ). r n f ps ≡ None) next (each (suc i) f ps here there)))

pub drop_past : {X : Type 0} (xs : List X) (n : ℕ) → length xs ≤ n → drop n xs ≡ []
drop_past [] zero le = refl
drop_past [] (suc n) le = refl
drop_past (x ∷ xs) zero le = absurd (omega arith)
drop_past (x ∷ xs) (suc n) le = drop_past xs n (omega arith)

-- ---- listed places

pub same_place : (p q : Place) → is_same p q ≡ true → p ≡ q
same_place p q h = by (cases_eq p.channel q.channel) (cases_eq p.deleted q.deleted)
  where
    by : (p.channel ≡ q.channel) ⊎ (p.channel ≡ q.channel → ⊥) → (p.deleted ≡ q.deleted) ⊎ (p.deleted ≡ q.deleted → ⊥) → p ≡ q
    by (inl c) (inl k) = λ i. record { channel = c i; deleted = k i }
    by (inl c) (inr other) = absurd (let bad = rw (eq-eqb p.channel q.channel c, ne_eqb p.deleted q.deleted other) at h in cc)
    by (inr other) _ = absurd (let bad = rw (ne_eqb p.channel q.channel other) at h in cc)

pub place_same : (p : Place) → is_same p p ≡ true
place_same p = rw (eq-eqb p.channel p.channel refl, eq-eqb p.deleted p.deleted refl) refl

pub listed_place : (ps : List Place) (p : Place) → is_listed ps p ≡ true → Contains ps p
listed_place [] p h = absurd cc
listed_place (q ∷ ps) p h = by (is_same p q) refl h (listed_place ps p)
  where
    by : (b : Bool) → is_same p q ≡ b → (b || is_listed ps p) ≡ true → (is_listed ps p ≡ true → Contains ps p) → Contains (q ∷ ps) p
    by true e all rest = subst (λ (z : Place). Contains (q ∷ ps) z) (sym (same_place p q e)) (Contains-head q ps)
    by false e all rest = Contains-later q p ps (rest all)

pub place_listed : (ps : List Place) (p : Place) → Contains ps p → is_listed ps p ≡ true
place_listed [] p m = absurd (omega (arith, m.1))
place_listed (q ∷ ps) p m = by (Contains-cases q p ps m) (place_listed ps p)
  where
    later : (b : Bool) → is_listed ps p ≡ true → (b || is_listed ps p) ≡ true
    later true h = refl
    later false h = h

    by : (q ≡ p) ⊎ Contains ps p → (Contains ps p → is_listed ps p ≡ true) → is_listed (q ∷ ps) p ≡ true
    by (inl same) rest = subst (λ (z : Place). is_listed (z ∷ ps) p ≡ true) (sym same) (rw (place_same p) refl)
    by (inr more) rest = later (is_same p q) (rest more)
