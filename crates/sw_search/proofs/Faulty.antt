-- The first fault of a flow.
use Rattle.std.proofs.Common.{◌≡◌, ℕ, zero, suc, ◌+◌, ◌<◌, ◌≤◌, List, [], ◌∷◌, length, get_or, refl, Option, Some, None, Vec, Global, sym, ap, ◌∙◌, subst, inl, inr, arith}
use Rattle.std.specs.Prelude.{slice_get, IfSome}
use Rattle.std.specs.List.{AllZip, range_with_len}
use Rattle.std.proofs.lemmas.Bool.{cases_lt}
use Rattle.std.proofs.lemmas.Option.{get_or_from_slice_get}
use Rattle.sw_config.specs.Entries.{FlowEntry, Declaration, all_flows}
use Rattle.sw_flow.specs.declared.fault.RouteFault.{RouteFault}
use Rattle.sw_flow.specs.declared.place.Place.{Place}
use Rattle.sw_flow.specs.Places.{IsPlaceList}
use Rattle.sw_flow.specs.Faults.{first_fault_of, IsWellRouted}
use Rattle.sw_flow.proofs.WellRouted.{well_routed_by_list}
use Rattle.sw_cycle.proofs.Flows.{some_at}
use Rattle.sw_search.specs.Lists.{AreFirstFaults, AreListed, IsFaulty, IsFirstFault, IsRouted}
use Rattle.sw_search.specs.Verdicts.{AllWellRouted, IsMisrouted}
use Rattle.sw_search.proofs.Zips.{zip_here}

abbrev At : Declaration → FlowEntry → Vec Place Global → Type 0
At d f v = IsPlaceList d f v.items

-- what is found in the list of flow i
by_answer : (d : Declaration) (i : ℕ) (f : FlowEntry) (places : List Place) → slice_get (all_flows d) i ≡ Some f → IsPlaceList d f places → (o : Option (Place × RouteFault)) → o ≡ first_fault_of d f places → IsFirstFault d i o
by_answer d i f places here list None is = λ g at.
    let both : Some f ≡ Some g = sym here ∙ at in
    let same : f ≡ g = cc in
    subst (IsWellRouted d) same ((well_routed_by_list d f places list).0 (sym is))
by_answer d i f places here list (Some found) is = record { flow = f; numbered = here; places = places; listed = list; first = sym is }

pub is_first_fault : (d : Declaration) (lists : List (Vec Place Global)) → AreListed d lists → (i : ℕ) → i < length (all_flows d) → (v : Vec Place Global) → v ≡ get_or lists i v → (places : List Place) → places ≡ v.items
    → (o : Option (Place × RouteFault)) → IfSome (slice_get (all_flows d) i) (λ f. o ≡ first_fault_of d f places) → IsFirstFault d i o
is_first_fault d lists listed i lt v at places same o given =
    let f = some_at (all_flows d) i lt in
    let w = zip_here (At d) (all_flows d) lists listed i f.0 f.1 in
    let there : v ≡ w.0 = at ∙ get_or_from_slice_get lists i w.0 v w.1 in
    let list : IsPlaceList d f.0 places = subst (IsPlaceList d f.0) (sym (same ∙ ap (λ (x : Vec Place Global). x.items) there)) w.2 in
    let is : o ≡ first_fault_of d f.0 places = rw f.1 at given in
    by_answer d i f.0 places f.1 list o is

-- one flow more
pub routed_more : (d : Declaration) (i : ℕ) → ((j : ℕ) → j < i → IsRouted d j) → IsRouted d i → (j : ℕ) → j < i + 1 → IsRouted d j
routed_more d i before here j lt = elim (cases_lt j i) [
  | inl less ↦ before j less
  | inr more ↦ let same : i ≡ j = omega arith in subst (IsRouted d) same here
]

pub all_routed : (d : Declaration) → ((j : ℕ) → j < length (all_flows d) → IsRouted d j) → AllWellRouted d
all_routed d each i e lt =
    let f = some_at (all_flows d) i lt in
    let at : slice_get (all_flows d) i ≡ Some (get_or (all_flows d) i e) = f.1 ∙ ap Some (sym (get_or_from_slice_get (all_flows d) i f.0 e f.1)) in
    each i lt (get_or (all_flows d) i e) at

-- the first flow that has a fault, and where none has one
pub misrouted_here : (d : Declaration) (i : ℕ) (o : Option (Place × RouteFault)) (found : Place × RouteFault) → o ≡ Some found → ((j : ℕ) → j < i → IsRouted d j) → IsFirstFault d i o → IsMisrouted d i found.0 found.1
misrouted_here d i o found is before here =
    let faulty : IsFaulty d i found.0 found.1 = subst (IsFirstFault d i) is here in
    record { flow = faulty.flow; numbered = faulty.numbered; before = λ j f lt at. before j lt f at; places = faulty.places; listed = faulty.listed; first = faulty.first }

pub all_looked_at : (d : Declaration) (n end : ℕ) → end ≡ length (all_flows d) → end ≤ n → ((j : ℕ) → j < n → IsRouted d j) → AllWellRouted d
all_looked_at d n end count all before = all_routed d (λ j lt. before j (omega (arith, count, all, lt)))

-- ---- the first faults of all flows

abbrev Found : Type 0
Found = Option (Place × RouteFault)

pub faults_are : (d : Declaration) (n : ℕ) (items : List Found) → n ≡ length (all_flows d) → AllZip (IsFirstFault d) (range_with_len 0 n) items → AreFirstFaults d items
faults_are d n items count h = subst (λ (m : ℕ). AllZip (IsFirstFault d) (range_with_len 0 m) items) count h

module _ (d : Declaration) where
  at : (a n : ℕ) (faults : List Found) (i : ℕ) (o : Found) → AllZip (IsFirstFault d) (range_with_len a n) faults → i < n → o ≡ get_or faults i o → IsFirstFault d (a + i) o
  at a zero faults i o h lt is = absurd (omega arith)
  at a (suc n) [] i o h lt is = absurd h
  at a (suc n) (p ∷ faults) zero o h lt is = subst (λ (k : ℕ). IsFirstFault d k o) (omega arith) (subst (IsFirstFault d a) (sym is) h.0)
  at a (suc n) (p ∷ faults) (suc i) o h lt is = subst (λ (k : ℕ). IsFirstFault d k o) (omega arith) (at (a + 1) n faults i o h.1 (omega arith) is)

  long : (a n : ℕ) (faults : List Found) → AllZip (IsFirstFault d) (range_with_len a n) faults → length faults ≡ n
  long a zero [] h = refl
  long a zero (p ∷ faults) h = absurd h
  long a (suc n) [] h = absurd h
  long a (suc n) (p ∷ faults) h = ap suc (long (a + 1) n faults h.1)

  -- one for each flow
  pub faults_long : (faults : List Found) → AreFirstFaults d faults → length faults ≡ length (all_flows d)
  faults_long faults h = long 0 (length (all_flows d)) faults h

  -- the one of a flow
  pub faults_at : (faults : List Found) (i j : ℕ) (o : Found) → AreFirstFaults d faults → j ≡ i → i < length (all_flows d) → o ≡ get_or faults j o → IsFirstFault d i o
  faults_at faults i j o h same lt is =
      subst (λ (k : ℕ). IsFirstFault d k o) (omega arith) (at 0 (length (all_flows d)) faults i o h lt (is ∙ ap (λ (k : ℕ). get_or faults k o) same))
