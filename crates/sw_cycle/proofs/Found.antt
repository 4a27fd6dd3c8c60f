-- First steps, one place and one flow more at a time.
use Rattle.std.proofs.Common.{◌≡◌, ℕ, zero, suc, ◌+◌, ◌<◌, ◌≤◌, true, false, List, [], ◌∷◌, ◌++◌, length, get_or, replicate, set, Option, Some, None, Contains, refl, sym, ap, ◌∙◌, subst, inl, inr, arith, get_or-set_same, get_or-set_other, length-set}
use Rattle.std.specs.Prelude.{MatchOption, slice_get, slice_index_or}
use Rattle.std.proofs.Math.Nat.{mod-eq_of_lt}
use Rattle.std.specs.Option.{is_some}
use Rattle.std.proofs.lemmas.Bool.{cases_eq, cases_lt, false≢true}
use Rattle.std.proofs.lemmas.List.{get_or-replicate, length-replicate}
use Rattle.std.proofs.lemmas.List.Elements.{Contains-append_cases, Contains-append_left}
use Rattle.std.proofs.lemmas.Option.{slice_get-get_or, slice_get_within}
use Rattle.sw_config.specs.Entries.{FlowEntry, Declaration, all_flows}
use Rattle.sw_flow.specs.declared.place.Place.{Place}
use Rattle.sw_flow.specs.Places.{Follows, IsPlace, IsPlaceList}
use Rattle.sw_cycle.specs.Cycles.{ByFlow, IsFlowCause, round}
use Rattle.sw_cycle.specs.declared.steps.PlaceStep.{PlaceStep}
use Rattle.sw_cycle.specs.Causes.{GoesOn, IsChosenCause, IsStep, NoneBelow, NoneGoesOn}
use Rattle.sw_cycle.specs.Firsts.{AreFirst, IsFirstStep, IsNotedAt, IsStepAfter, IsTaken, NoneYet}
use Rattle.sw_cycle.proofs.Stepped.{no_step}
use Rattle.sw_topo.proofs.Lists.{none_in}

-- ---- before the first flow

pub none_first : (d : Declaration) (channels : List ℕ) (steps : List (Option PlaceStep)) → steps ≡ replicate (length channels) None → AreFirst d (NoneBelow d 0) channels steps
none_first d channels steps blank = record {
  size = ap length blank ∙ length-replicate (length channels) None;
  each = λ i lt.
      let none : slice_index_or steps i None ≡ None = ap (λ (l : List (Option PlaceStep)). slice_index_or l i None) blank ∙ get_or-replicate (length channels) i None None lt in
      subst (λ (o : Option PlaceStep). MatchOption o (NoneBelow d 0 (round channels i) (round channels (i + 1))) (IsFirstStep d (round channels i) (round channels (i + 1)))) (sym none) (λ j below goes. absurd (omega (arith, below)));
}

-- ---- what is missing

module _ (d : Declaration) (M N : ℕ → ℕ → Type 0) (weaker : (c e : ℕ) → M c e → N c e) where
  weaker_at : (c e : ℕ) (o : Option PlaceStep) → MatchOption o (M c e) (IsFirstStep d c e) → MatchOption o (N c e) (IsFirstStep d c e)
  weaker_at c e None h = weaker c e h
  weaker_at c e (Some s) h = h

  pub weaker_all : (channels : List ℕ) (steps : List (Option PlaceStep)) → AreFirst d M channels steps → AreFirst d N channels steps
  weaker_all channels steps a = record { size = a.size; each = λ i lt. weaker_at (round channels i) (round channels (i + 1)) (slice_index_or steps i None) (a.each i lt) }

pub missing : (d : Declaration) (c e : ℕ) (o : Option PlaceStep) → o ≡ None → MatchOption o (NoneGoesOn d c e) (IsFirstStep d c e) → NoneGoesOn d c e
missing d c e o is h = subst (λ (p : Option PlaceStep). MatchOption p (NoneGoesOn d c e) (IsFirstStep d c e)) is h

pub first_of : (d : Declaration) (c e : ℕ) (o : Option PlaceStep) (s : PlaceStep) → o ≡ Some s → MatchOption o (NoneGoesOn d c e) (IsFirstStep d c e) → IsFirstStep d c e s
first_of d c e o s is h = subst (λ (p : Option PlaceStep). MatchOption p (NoneGoesOn d c e) (IsFirstStep d c e)) is h

-- ---- the cause by a first step

module _ (d : Declaration) (c e : ℕ) (s : PlaceStep) (f : IsFirstStep d c e s) where
  pub step_of : IsStep d s.flow s.last.channel s.next.channel s.last s.next
  step_of = let is = f.step in record { flow = is.flow; numbered = is.numbered; place = is.place; goes = is.goes; from = refl; to = refl }

  pub chosen_flow : (places : List Place) → IsFlowCause d s.flow places s.last.channel s.next.channel → IsChosenCause d (ByFlow s.flow places) c e
  chosen_flow places h = record {
    shows = subst (λ (y : ℕ). IsFlowCause d s.flow places c y) f.step.to (subst (λ (x : ℕ). IsFlowCause d s.flow places x s.next.channel) f.step.from h);
    first = f.first;
  }

-- all places of the flow are looked at
pub flow_more : (d : Declaration) (n : ℕ) (f : FlowEntry) (places : List Place) (channels : List ℕ) (steps : List (Option PlaceStep)) → slice_get (all_flows d) n ≡ Some f → IsPlaceList d f places
    → AreFirst d (NoneYet d n f places) channels steps → AreFirst d (NoneBelow d (n + 1)) channels steps
flow_more d n f places channels steps numbered list a =
    weaker_all d (NoneYet d n f places) (NoneBelow d (n + 1)) (λ c e none i lt goes. elim (cases_lt i n) [
      | inl less ↦ none.0 i less goes
      | inr le ↦ let same : i ≡ n = omega arith in no_step d n f places numbered list c e none.1 (subst (λ (k : ℕ). GoesOn d k c e) same goes)
    ]) channels steps a

-- all flows are looked at
pub all_looked_at : (d : Declaration) (n : ℕ) (channels : List ℕ) (steps : List (Option PlaceStep)) → length (all_flows d) ≤ n → AreFirst d (NoneBelow d n) channels steps → AreFirst d (NoneGoesOn d) channels steps
all_looked_at d n channels steps all a =
    weaker_all d (NoneBelow d n) (NoneGoesOn d) (λ c e none i goes. let within = slice_get_within (all_flows d) i goes.2.flow goes.2.numbered in none i (omega arith) goes) channels steps a

-- before the first place of a flow
pub flow_begun : (d : Declaration) (n : ℕ) (f : FlowEntry) (channels : List ℕ) (steps : List (Option PlaceStep)) → AreFirst d (NoneBelow d n) channels steps → AreFirst d (NoneYet d n f []) channels steps
flow_begun d n f channels steps a = weaker_all d (NoneBelow d n) (NoneYet d n f []) (λ c e none. (none, λ p m at. absurd (let lt = at.1 in omega (arith, lt)))) channels steps a

-- ---- one place at one position

set_back : (steps : List (Option PlaceStep)) (i : ℕ) → steps ≡ set steps i (get_or steps i None)
set_back [] i = refl
set_back (s ∷ steps) zero = refl
set_back (s ∷ steps) (suc i) = ap (λ (l : List (Option PlaceStep)). s ∷ l) (set_back steps i)

module _ (d : Declaration) (n : ℕ) (f : FlowEntry) (p : Place) (channels : List ℕ) (i : ℕ) (steps : List (Option PlaceStep)) where
  -- what is there is kept
  pub kept_at : IsStepAfter d n f p (round channels i) (round channels (i + 1)) (get_or steps i None) (get_or steps i None) → IsNotedAt d n f p channels i steps steps
  kept_at after = record { found = get_or steps i None; after = after; stored = set_back steps i }

  same_after : (c e : ℕ) (o : Option PlaceStep) → is_some o ≡ true → IsStepAfter d n f p c e o o
  same_after c e None some = absurd (false≢true some)
  same_after c e (Some s) some = refl

  pub known_at : is_some (get_or steps i None) ≡ true → IsNotedAt d n f p channels i steps steps
  known_at some = kept_at (same_after (round channels i) (round channels (i + 1)) (get_or steps i None) some)

  none_after : (c e : ℕ) (o : Option PlaceStep) → is_some o ≡ false → (p.channel ≡ c → (m : ℕ) → Follows d f p.channel p.deleted e m → ⊥) → IsStepAfter d n f p c e o o
  none_after c e None none last = last
  none_after c e (Some s) none last = absurd (false≢true (sym none))

  pub nothing_at : is_some (get_or steps i None) ≡ false → (p.channel ≡ round channels i → (m : ℕ) → Follows d f p.channel p.deleted (round channels (i + 1)) m → ⊥) → IsNotedAt d n f p channels i steps steps
  nothing_at none last = kept_at (none_after (round channels i) (round channels (i + 1)) (get_or steps i None) none last)

  new_after : (c e : ℕ) (o : Option PlaceStep) (s : PlaceStep) → is_some o ≡ false → IsTaken d n f p c e s → IsStepAfter d n f p c e o (Some s)
  new_after c e None s none taken = taken
  new_after c e (Some t) s none taken = absurd (false≢true (sym none))

  pub found_at : (s : PlaceStep) → is_some (get_or steps i None) ≡ false → IsTaken d n f p (round channels i) (round channels (i + 1)) s → IsNotedAt d n f p channels i steps (set steps i (Some s))
  found_at s none taken = record { found = Some s; after = new_after (round channels i) (round channels (i + 1)) (get_or steps i None) s none taken; stored = refl }

-- ---- one place more

module _ (d : Declaration) (n : ℕ) (f : FlowEntry) (places : List Place) (p : Place) where
  abbrev Before : ℕ → ℕ → Option PlaceStep → Type 0
  Before c e o = MatchOption o (NoneYet d n f places c e) (IsFirstStep d c e)

  abbrev After : ℕ → ℕ → Option PlaceStep → Type 0
  After c e o = MatchOption o (NoneYet d n f (places ++ p ∷ []) c e) (IsFirstStep d c e)

  fewer : (c e : ℕ) (o : Option PlaceStep) → After c e o → Before c e o
  fewer c e None h = (h.0, λ q m at. h.1 q m (Contains-append_left places (p ∷ []) q at))
  fewer c e (Some s) h = h

  one : (q : Place) → Contains (p ∷ []) q → p ≡ q
  one q (zero, lt, is) = is
  one q (suc k, lt, is) = absurd (omega (arith, lt))

  last_too : (c e : ℕ) → NoneYet d n f places c e → (p.channel ≡ c → (m : ℕ) → Follows d f p.channel p.deleted e m → ⊥) → NoneYet d n f (places ++ p ∷ []) c e
  last_too c e none last = (
    none.0,
    λ q m at is follows. elim (Contains-append_cases places (p ∷ []) q at) [
      | inl old ↦ none.1 q m old is follows
      | inr new ↦ subst (λ (x : Place). x.channel ≡ c → (k : ℕ) → Follows d f x.channel x.deleted e k → ⊥) (one q new) last is m follows
    ],
  )

  elsewhere : (c e : ℕ) (o : Option PlaceStep) → (p.channel ≡ c → ⊥) → Before c e o → After c e o
  elsewhere c e None other h = last_too c e h (λ is. absurd (other is))
  elsewhere c e (Some s) other h = h

  module _ (numbered : slice_get (all_flows d) n ≡ Some f) (place : IsPlace d f p.channel p.deleted) where
    taken_first : (c e : ℕ) (s : PlaceStep) → NoneBelow d n c e → IsTaken d n f p c e s → IsFirstStep d c e s
    taken_first c e s none t =
        let step : IsStep d n c e p s.next = record { flow = f; numbered = numbered; place = place; goes = t.goes; from = t.from; to = t.to } in
        record {
          step = subst (λ (x : Place). IsStep d s.flow c e x s.next) (sym t.last) (subst (λ (k : ℕ). IsStep d k c e p s.next) (sym t.flow) step);
          first = subst (λ (k : ℕ). NoneBelow d k c e) (sym t.flow) none;
        }

    noted : (c e : ℕ) (old new : Option PlaceStep) → IsStepAfter d n f p c e old new → Before c e old → After c e new
    noted c e (Some s) new is h = subst (After c e) (sym is) h
    noted c e None None last h = last_too c e h last
    noted c e None (Some s) taken h = taken_first c e s h.0 taken

  -- at these positions the place is taken into account
  pub record ArePartly (channels at : List ℕ) (steps : List (Option PlaceStep)) : Type 0 where
    pub size : length steps ≡ length channels
    pub each : (i : ℕ) → i < length channels → (Contains at i → After (round channels i) (round channels (i + 1)) (slice_index_or steps i None)) × Before (round channels i) (round channels (i + 1)) (slice_index_or steps i None)

  pub partly_none : (channels : List ℕ) (steps : List (Option PlaceStep)) → AreFirst d (NoneYet d n f places) channels steps → ArePartly channels [] steps
  partly_none channels steps a = record { size = a.size; each = λ i lt. (λ h. absurd (none_in i h), a.each i lt) }

  pub partly_all : (channels at : List ℕ) (steps : List (Option PlaceStep)) → ((i : ℕ) → i < length channels → slice_get channels i ≡ Some p.channel → Contains at i) → ArePartly channels at steps → AreFirst d (NoneYet d n f (places ++ p ∷ [])) channels steps
  partly_all channels at steps all a = record {
    size = a.size;
    each = λ i lt. elim (cases_eq p.channel (round channels i)) [
      | inl same ↦ (a.each i lt).0 (all i lt (read i lt (sym same)))
      | inr other ↦ elsewhere (round channels i) (round channels (i + 1)) (slice_index_or steps i None) other (a.each i lt).1
    ];
  }
    where
      read : (i : ℕ) → i < length channels → round channels i ≡ p.channel → slice_get channels i ≡ Some p.channel
      read i lt is = slice_get-get_or channels i 0 lt ∙ ap Some (sym (ap (λ (k : ℕ). get_or channels k 0) (mod-eq_of_lt lt)) ∙ is)

  pub partly_more : (channels at : List ℕ) (steps steps2 : List (Option PlaceStep)) (j : ℕ) → slice_get (all_flows d) n ≡ Some f → IsPlace d f p.channel p.deleted → j < length channels
      → IsNotedAt d n f p channels j steps steps2 → ArePartly channels at steps → ArePartly channels (at ++ j ∷ []) steps2
  partly_more channels at steps steps2 j numbered place lt s a =
      subst (λ (l : List (Option PlaceStep)). ArePartly channels (at ++ j ∷ []) l) (sym s.stored)
      (record { size = length-set steps j s.found ∙ a.size; each = λ i inside. elim (cases_eq i j) [ inl same ↦ on i same | inr other ↦ off i inside other ] })
    where
      on : (i : ℕ) → i ≡ j → (Contains (at ++ j ∷ []) i → After (round channels i) (round channels (i + 1)) (slice_index_or (set steps j s.found) i None)) × Before (round channels i) (round channels (i + 1)) (slice_index_or (set steps j s.found) i None)
      on i same =
          let size = a.size in
          let inside : j < length steps = omega (arith, lt, size) in
          let there : After (round channels j) (round channels (j + 1)) s.found = noted numbered place (round channels j) (round channels (j + 1)) (slice_index_or steps j None) s.found s.after (a.each j lt).1 in
          let is : slice_index_or (set steps j s.found) i None ≡ s.found = ap (λ (k : ℕ). get_or (set steps j s.found) k None) same ∙ get_or-set_same steps j s.found None inside in
          let here_too : After (round channels i) (round channels (i + 1)) (slice_index_or (set steps j s.found) i None) =
          subst (After (round channels i) (round channels (i + 1))) (sym is) (subst (λ (k : ℕ). After (round channels k) (round channels (k + 1)) s.found) (sym same) there) in
          (λ h. here_too, fewer (round channels i) (round channels (i + 1)) (slice_index_or (set steps j s.found) i None) here_too)

      only : (i : ℕ) → Contains (j ∷ []) i → j ≡ i
      only i (zero, less, is) = is
      only i (suc k, less, is) = absurd (omega (arith, less))

      off : (i : ℕ) → i < length channels → (i ≡ j → ⊥) → (Contains (at ++ j ∷ []) i → After (round channels i) (round channels (i + 1)) (slice_index_or (set steps j s.found) i None)) × Before (round channels i) (round channels (i + 1)) (slice_index_or (set steps j s.found) i None)
      off i inside other =
          let same : slice_index_or (set steps j s.found) i None ≡ slice_index_or steps i None = get_or-set_other steps j i s.found None other in
          let P : Option PlaceStep → Type 0 = λ o. (Contains (at ++ j ∷ []) i → After (round channels i) (round channels (i + 1)) o) × Before (round channels i) (round channels (i + 1)) o in
          let known = a.each i inside in
          subst P (sym same) (λ h. elim (Contains-append_cases at (j ∷ []) i h) [ inl before ↦ known.0 before | inr last ↦ absurd (other (sym (only i last))) ], known.1)
