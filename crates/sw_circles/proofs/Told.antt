-- Rows of places, and lists of circles, as they are found.
use Rattle.std.proofs.Common.{◌≡◌, ◌∙◌, ◌⊎◌, ℕ, ◌<◌, ◌≤◌, ◌↔◌, AllPairs, Bool, Contains, List, [], ◌∷◌, None, Option, Some, Vec, Global, ap, arith, eq-eqb, eqb-true, false, filter, get_or, inl, inr, length, lt-ltb, le-ltb, map, option_map, refl, subst, suc, sym, true}
use Rattle.std.specs.Prelude.{◌==◌, position, slice_get, unwrap_or}
use Rattle.std.proofs.lemmas.Bool.{and_parts, cases_Bool, ne_eqb}
use Rattle.std.proofs.lemmas.List.{length-map}
use Rattle.std.proofs.lemmas.List.Elements.{All-filter, Contains-get_or}
use Rattle.std.proofs.lemmas.List.Kept.{AllPairs-cons}
use Rattle.std.proofs.lemmas.List.Quantifiers.{position-Some}
use Rattle.std.proofs.lemmas.List.Sums.{position_or_len_is}
use Rattle.std.proofs.lemmas.Option.{get_or_from_slice_get, slice_get-get_or, slice_get-map, slice_get_within}
use Rattle.sw_config.specs.Entries.{Declaration, FlowEntry}
use Rattle.sw_flow.proofs.Listed.{Contains-filter_map, Contains-from_filter_map}
use Rattle.sw_flow.proofs.Walked.{followers_are_listed}
use Rattle.sw_flow.specs.Followers.{followers_of}
use Rattle.sw_flow.specs.Places.{Follows, IsBefore}
use Rattle.sw_flow.specs.declared.place.Place.{Place}
use Rattle.sw_graph.specs.Rows.{IsGraph, Leads, items_of, row}
use Rattle.sw_circles.specs.Circles.{GoesOn, is_place, row_from, with_deleted}

-- ---- numbers of places

-- the first of these places that passes
pub first_is : (p : Place → Bool) (places : List Place) (i : ℕ) (d : Place) → i < length places → ((k : ℕ) → k < i → p (get_or places k d) ≡ false) → p (get_or places i d) ≡ true → Some i ≡ position p places
first_is p places i d lt before here =
    let is = position_or_len_is p places i d (omega (arith, lt)) before (λ below. here) in
    rw (is, lt-ltb i (length places) lt) refl

-- none of them does
pub none_is : (p : Place → Bool) (places : List Place) (i : ℕ) (d : Place) → i ≤ length places → length places ≤ i → ((k : ℕ) → k < i → p (get_or places k d) ≡ false) → None ≡ position p places
none_is p places i d most least before =
    let is = position_or_len_is p places i d most before (λ below. absurd (omega (arith, below, least))) in
    rw (is, le-ltb i (length places) least) refl

filter_pairs : {X : Type 0} (R : X → X → Type 0) (p : X → Bool) (xs : List X) → AllPairs R xs → AllPairs R (filter p xs)
filter_pairs R p [] order = order
filter_pairs {X} R p (x ∷ xs) order =
    by (p x) refl (filter_pairs R p xs (λ i j d lt within. order (suc i) (suc j) d (omega (arith, lt)) (omega (arith, within))))
  where
    by : (b : Bool) → p x ≡ b → AllPairs R (filter p xs) → AllPairs R (filter p (x ∷ xs))
    by true is rest = rw is (AllPairs-cons R x (filter p xs) (All-filter p (R x) xs (λ k d lt. order 0 (suc k) d (omega arith) (omega (arith, lt)))) rest)
    by false is rest = rw is rest

-- the places with so many deleted bytes are in order, as all are
pub alike_in_order : (k : ℕ) (places : List Place) → AllPairs IsBefore places → AllPairs IsBefore (with_deleted k places)
alike_in_order k places order = filter_pairs IsBefore (λ p. p.deleted == k) places order

pub same_place : (p q : Place) → is_place p q ≡ true → (q.channel ≡ p.channel) × (q.deleted ≡ p.deleted)
same_place p q is = let both = and_parts (q.channel == p.channel) (q.deleted == p.deleted) is in (eqb-true q.channel p.channel both.0, eqb-true q.deleted p.deleted both.1)

apart : (p q : Place) → IsBefore p q → is_place q p ≡ false
apart p q (inl less) = rw (ne_eqb p.channel q.channel (λ e. omega (arith, e, less))) refl
apart p q (inr same) = by (cases_Bool (p.channel == q.channel))
  where
    by : ((p.channel == q.channel) ≡ true) ⊎ ((p.channel == q.channel) ≡ false) → is_place q p ≡ false
    by (inl is) = rw (is, ne_eqb p.deleted q.deleted (λ e. omega (arith, e, same.1))) refl
    by (inr is) = rw is refl

itself : (p : Place) → is_place p p ≡ true
itself p = rw (eq-eqb p.channel p.channel refl, eq-eqb p.deleted p.deleted refl) refl

-- each place of a list in order has its own number
pub number_is : (places : List Place) (j : ℕ) (p : Place) → AllPairs IsBefore places → slice_get places j ≡ Some p → position (is_place p) places ≡ Some j
number_is places j p order is =
    let lt = slice_get_within places j p is in
    let here : get_or places j p ≡ p = get_or_from_slice_get places j p p is in
    sym (first_is (is_place p) places j p lt
    (λ k before. subst (λ q. is_place q (get_or places k p) ≡ false) here (apart (get_or places k p) (get_or places j p) (order k j p before lt)))
    (ap (is_place p) here ∙ itself p))

-- ---- rows

module _ (d : Declaration) (f : FlowEntry) (places : List Place) (rows : List (Vec ℕ Global)) (are : map (λ r. r.items) rows ≡ map (row_from d f places) places) where
  size : length rows ≡ length places
  size = sym (length-map rows (λ r. r.items)) ∙ ap length are ∙ length-map places (row_from d f places)

  read : (o : Option (Vec ℕ Global)) → items_of o ≡ unwrap_or (option_map (λ r. r.items) o) []
  read None = refl
  read (Some v) = refl

  row_is : (i : ℕ) → row rows i ≡ unwrap_or (option_map (row_from d f places) (slice_get places i)) []
  row_is i =
      read (slice_get rows i)
      ∙ ap (λ o. unwrap_or o []) (sym (slice_get-map (λ r. r.items) rows i) ∙ ap (λ xs. slice_get xs i) are ∙ slice_get-map (row_from d f places) places i)

  -- what stands in a row is the number of a place that follows
  follower : (p : Place) (j : ℕ) → Contains (row_from d f places p) j → (r : Place) × (slice_get places j ≡ Some r) × Follows d f p.channel p.deleted r.channel r.deleted
  follower p j there =
      let given = Contains-from_filter_map (λ q. position (is_place q) places) (followers_of d f p.channel p.deleted) j there in
      let q : Place = given.0 in
      let found = position-Some (is_place q) places j q given.2 in
      let r : Place = get_or places j q in
      let same = same_place q r found.1 in
      let step : Follows d f p.channel p.deleted q.channel q.deleted = (followers_are_listed d f p.channel p.deleted q).0 given.1 in
      (r, slice_get-get_or places j q found.0, subst (λ c. Follows d f p.channel p.deleted c r.deleted) (sym same.0) (subst (λ k. Follows d f p.channel p.deleted q.channel k) (sym same.1) step))

  at : (i j : ℕ) (o : Option Place) → slice_get places i ≡ o → Contains (unwrap_or (option_map (row_from d f places) o) []) j → GoesOn d f places i j
  at i j None is there = absurd (omega (arith, there.1))
  at i j (Some p) is there =
      let to = follower p j there in
      record { from = p; to = to.0; from_is = is; to_is = to.1; step = to.2 }

  pub rows_lead : AllPairs IsBefore places → (i j : ℕ) → Leads rows i j ↔ GoesOn d f places i j
  rows_lead order i j = (
    λ leads. at i j (slice_get places i) refl (subst (λ xs. Contains xs j) (row_is i) leads),
    λ goes.
        let follows : Contains (followers_of d f goes.from.channel goes.from.deleted) goes.to = (followers_are_listed d f goes.from.channel goes.from.deleted goes.to).1 goes.step in
        let there : Contains (row_from d f places goes.from) j = Contains-filter_map (λ q. position (is_place q) places) (followers_of d f goes.from.channel goes.from.deleted) goes.to j follows (number_is places j goes.to order goes.to_is) in
        subst (λ xs. Contains xs j) (sym (row_is i ∙ ap (λ o. unwrap_or (option_map (row_from d f places) o) []) goes.from_is)) there,
  )

  pub rows_graph : IsGraph rows
  rows_graph i v lt k e within =
      let r : Vec ℕ Global = get_or rows i v in
      let is : row rows i ≡ r.items = ap items_of (slice_get-get_or rows i v lt) in
      let there : Contains (row rows i) (get_or r.items k e) = subst (λ xs. Contains xs (get_or r.items k e)) (sym is) (Contains-get_or r.items k e within) in
      let goes : GoesOn d f places i (get_or r.items k e) = at i (get_or r.items k e) (slice_get places i) refl (subst (λ xs. Contains xs (get_or r.items k e)) (row_is i) there) in
      let below = slice_get_within places (get_or r.items k e) goes.to goes.to_is in
      omega (arith, below, size)
