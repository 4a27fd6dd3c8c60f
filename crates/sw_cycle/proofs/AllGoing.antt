-- All flows that go on from a channel to another, and lists of the first numbers that have a property.
use Rattle.std.proofs.Common.{◌≡◌, ℕ, ◌+◌, ◌<◌, ◌≤◌, List, [], ◌∷◌, ◌++◌, length, true, false, Option, Some, None, Contains, ◌-◌, refl, sym, ap, ◌∙◌, subst, take, inl, inr, arith}
use Rattle.std.specs.Prelude.{IfNone, IfSome, slice_get, slice_index}
use Rattle.std.specs.List.{AllWithin}
use Rattle.std.specs.List.Sorted.{IsStrictlyIncreasing}
use Rattle.std.specs.Option.{is_some}
use Rattle.std.proofs.lemmas.Bool.{cases_lt, false≢true}
use Rattle.std.proofs.lemmas.List.Elements.{Contains-append_cases, Contains-append_left, Contains-push, Contains-push_cases, Contains-get_or}
use Rattle.std.proofs.lemmas.List.{get_or-append_right, get_or_append_left, get_or-take, length-append, length-take-le}
use Rattle.sw_config.specs.Entries.{FlowEntry, Declaration, all_flows}
use Rattle.sw_flow.specs.declared.place.Place.{Place}
use Rattle.sw_flow.specs.Places.{Follows, IsPlace}
use Rattle.sw_flow.specs.Ways.{GoesTo}
use Rattle.sw_graph.specs.Reached.{IsListing}
use Rattle.sw_graph.proofs.Adding.{nothing_in}
use Rattle.sw_cycle.specs.Causes.{GoesOn}
use Rattle.sw_cycle.specs.Firsts.{NoneFrom}

pub none_from_none : (d : Declaration) (f : FlowEntry) (c e : ℕ) → NoneFrom d f [] c e
none_from_none d f c e = λ p m at is follows. nothing_in p at

-- no step from the places before one, and none behind it is on the channel
pub none_left : (d : Declaration) (f : FlowEntry) (places : List Place) (at c e : ℕ) → at ≤ length places → AllWithin (λ (q : Place). c < q.channel) places at (length places) → NoneFrom d f (take at places) c e → NoneFrom d f places c e
none_left d f places at c e within after before p m (k, lt, is) on follows = elim (cases_lt k at) [
  | inl less ↦
      let long = length-take-le at places within in
      before p m (k, omega (arith, less, long), get_or-take at places k p less ∙ is) on follows
  | inr past ↦
      let high = after k p past lt in
      let same = ap (λ (q : Place). q.channel) is in
      absurd (omega (arith, high, same, on))
]

module _ (d : Declaration) (i : ℕ) (f : FlowEntry) (p : Place) (c e : ℕ) where
  -- the step that was found
  pub found_on : (o : Option Place) → is_some o ≡ true → IfSome o (λ q. p.channel ≡ c) → IfSome o (λ q. q.channel ≡ e) → IfSome o (GoesTo d f p) → slice_get (all_flows d) i ≡ Some f → IsPlace d f p.channel p.deleted → GoesOn d i c e
  found_on None some from to goes numbered place = absurd (false≢true some)
  found_on (Some q) some from to goes numbered place = (p, q, record { flow = f; numbered = numbered; place = place; goes = goes; from = from; to = to })

  -- no step from one place more
  pub none_from_more : (places : List Place) (o : Option Place) → is_some o ≡ false → IfNone o (p.channel ≡ c → (m : ℕ) → Follows d f p.channel p.deleted e m → ⊥) → NoneFrom d f places c e → NoneFrom d f (places ++ p ∷ []) c e
  none_from_more places (Some q) none last before = absurd (false≢true (sym none))
  none_from_more places None none last before = λ q m at is follows. elim (Contains-append_cases places (p ∷ []) q at) [
    | inl old ↦ before q m old is follows
    | inr new ↦
        let P : Place → Type 0 = λ x. x.channel ≡ c → (k : ℕ) → Follows d f x.channel x.deleted e k → ⊥ in
        elim (Contains-push_cases [] p q new) [ inl never ↦ nothing_in q never | inr same ↦ subst P same last is m follows ]
  ]

rising_push : (xs : List ℕ) (n : ℕ) → IsStrictlyIncreasing xs → ((k : ℕ) → k < length xs → slice_index xs k < n) → IsStrictlyIncreasing (xs ++ n ∷ [])
rising_push xs n rising low = λ k lt.
    let long = length-append xs (n ∷ []) in
    let a : slice_index (xs ++ n ∷ []) k ≡ slice_index xs k = get_or_append_left xs (n ∷ []) 0 k (omega arith) in
    elim (cases_lt (k + 1) (length xs)) [
      | inl less ↦
          let b : slice_index (xs ++ n ∷ []) (k + 1) ≡ slice_index xs (k + 1) = get_or_append_left xs (n ∷ []) 0 (k + 1) less in
          let h = rising k less in
          omega arith
      | inr past ↦
          let z : k + 1 - length xs ≡ 0 = omega arith in
          let b : slice_index (xs ++ n ∷ []) (k + 1) ≡ n = get_or-append_right xs (n ∷ []) (length xs) (k + 1) 0 refl past ∙ ap (λ i. slice_index (n ∷ []) i) z in
          let h = low k (omega arith) in
          omega arith
    ]

-- those of the first n numbers that have the property
abbrev pub First : (ℕ → Type 0) → ℕ → List ℕ → Type 0
First P n numbers = IsListing (λ i. (i < n) × P i) numbers

module _ (P : ℕ → Type 0) where
  pub first_none : First P 0 []
  first_none = record {
    rising = λ k lt. absurd (omega arith);
    member = λ i. (λ h. nothing_in i h, λ h. let lt = h.0 in absurd (omega arith));
  }

  pub first_more : (n : ℕ) (numbers : List ℕ) → First P n numbers → P n → First P (n + 1) (numbers ++ n ∷ [])
  first_more n numbers b here = record {
    rising = rising_push numbers n b.rising (λ k lt. ((b.member (slice_index numbers k)).0 (Contains-get_or numbers k 0 lt)).0);
    member = λ i. (
      λ h. elim (Contains-push_cases numbers n i h) [
        | inl old ↦ let r = (b.member i).0 old in ((let lt = r.0 in omega arith), r.1)
        | inr same ↦ (omega arith, subst P same here)
      ],
      λ h. elim (cases_lt i n) [
        | inl less ↦ Contains-append_left numbers (n ∷ []) i ((b.member i).1 (less, h.1))
        | inr past ↦ (let lt = h.0 in let same : n ≡ i = omega arith in let Q : ℕ → Type 0 = λ x. Contains (numbers ++ n ∷ []) x in subst Q same (Contains-push numbers n))
      ],
    );
  }

  pub first_kept : (n : ℕ) (numbers : List ℕ) → First P n numbers → (P n → ⊥) → First P (n + 1) numbers
  first_kept n numbers b none = record {
    rising = b.rising;
    member = λ i. (
      λ h. let r = (b.member i).0 h in ((let lt = r.0 in omega arith), r.1),
      λ h. elim (cases_lt i n) [
        | inl less ↦ (b.member i).1 (less, h.1)
        | inr past ↦ (let lt = h.0 in let same : i ≡ n = omega arith in absurd (none (subst P same h.1)))
      ],
    );
  }

  -- there is none that has it from n on
  pub first_all : (n : ℕ) (numbers : List ℕ) → ((i : ℕ) → P i → i < n) → First P n numbers → IsListing P numbers
  first_all n numbers all b = record {
    rising = b.rising;
    member = λ i. (λ h. ((b.member i).0 h).1, λ has. (b.member i).1 (all i has, has));
  }
