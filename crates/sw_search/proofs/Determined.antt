-- Any two verdicts on a network say the same.
use Rattle.std.proofs.Common.{◌≡◌, ℕ, List, length, Option, Some, None, sym, ap, ◌∙◌, subst, inl, inr, arith}
use Rattle.std.specs.Prelude.{slice_get}
use Rattle.std.proofs.lemmas.Bool.{cases_lt}
use Rattle.std.proofs.lemmas.List.Elements.{All-contains}
use Rattle.sw_config.specs.Entries.{FlowEntry, Declaration, all_flows}
use Rattle.sw_flow.specs.declared.fault.RouteFault.{RouteFault}
use Rattle.sw_flow.specs.declared.place.Place.{Place}
use Rattle.sw_flow.specs.Places.{ends_of, IsPlaceList}
use Rattle.sw_flow.specs.Faults.{first_fault_of, IsWellRouted}
use Rattle.sw_flow.proofs.WellRouted.{well_routed_by_list}
use Rattle.sw_cert.proofs.Lists.{Contains-at}
use Rattle.sw_cycle.specs.Causes.{AreChosen}
use Rattle.sw_search.specs.declared.verdict.Verdict.TheVariants.{Misrouted, Cyclic, Free}
use Rattle.sw_search.specs.Laws.{VerdictsAreDetermined}
use Rattle.sw_search.specs.Verdicts.{AllWellRouted, depends, IsMisrouted}
use Rattle.sw_search.proofs.Cycles.{same_cycle}
use Rattle.sw_search.proofs.SameCauses.{same_causes}
use Rattle.sw_search.proofs.Levels.{has_cycle, same_levels}
use Rattle.sw_flow.proofs.Sorted.{same_places}
use Rattle.sw_search.proofs.Zips.{zip_determined}

pub faulty : (d : Declaration) (i : ℕ) (p : Place) (fault : RouteFault) (h : IsMisrouted d i p fault) → IsWellRouted d h.flow → ⊥
faulty d i p fault h well =
    let none = (well_routed_by_list d h.flow h.places h.listed).1 well in
    let bad : ◌≡◌ {A = Option (Place × RouteFault)} (Some (p, fault)) None = sym h.first ∙ none in
    cc

pub not_routed : (d : Declaration) (i : ℕ) (p : Place) (fault : RouteFault) → IsMisrouted d i p fault → AllWellRouted d → ⊥
not_routed d i p fault h all = faulty d i p fault h (All-contains (IsWellRouted d) (all_flows d) h.flow all (Contains-at (all_flows d) i h.flow h.numbered))

-- what the first flow that is not well routed is
module _ (d : Declaration) (i j : ℕ) (p q : Place) (fault other : RouteFault) (h : IsMisrouted d i p fault) (k : IsMisrouted d j q other) where
  same_number : i ≡ j
  same_number = elim (cases_lt i j) [
    | inl less ↦ absurd (faulty d i p fault h (k.before i h.flow less h.numbered))
    | inr more ↦ elim (cases_lt j i) [
      | inl less ↦ absurd (faulty d j q other k (h.before j k.flow less k.numbered))
      | inr both ↦ omega arith
    ]
  ]

  same_flow : h.flow ≡ k.flow
  same_flow =
      let there : slice_get (all_flows d) i ≡ Some k.flow = ap (λ (n : ℕ). slice_get (all_flows d) n) same_number ∙ k.numbered in
      let both : Some h.flow ≡ Some k.flow = sym h.numbered ∙ there in
      cc

  same_list : h.places ≡ k.places
  same_list = same_places d k.flow h.places k.places (subst (λ (f : FlowEntry). IsPlaceList d f h.places) same_flow h.listed) k.listed

  same_first : ◌≡◌ {A = Option (Place × RouteFault)} (Some (p, fault)) (Some (q, other))
  same_first = sym h.first ∙ (λ i. first_fault_of d (same_flow i) (same_list i)) ∙ k.first

  abbrev first_pair : Option (Place × RouteFault) → Place × RouteFault
  first_pair None = (p, fault)
  first_pair (Some x) = x

  pub same_fault : (i ≡ j) × (p ≡ q) × (fault ≡ other)
  same_fault =
      let pair : ◌≡◌ {A = Place × RouteFault} (p, fault) (q, other) = ap first_pair same_first in
      (same_number, (λ i. (pair i).0), (λ i. (pair i).1))

pub determined : VerdictsAreDetermined
determined d (Misrouted i p fault) (Misrouted j q other) h k = same_fault d i j p q fault other h k
determined d (Misrouted i p fault) (Cyclic cycle) h k = not_routed d i p fault h k.routed
determined d (Misrouted i p fault) (Free contents) h k = not_routed d i p fault h k.routed
determined d (Cyclic cycle) (Misrouted i p fault) h k = not_routed d i p fault k h.routed
determined d (Cyclic cycle) (Cyclic other) h k =
    let same : cycle.channels ≡ other.channels = same_cycle (depends d) cycle.channels other.channels h.shown k.shown in
    let chosen : AreChosen d other.channels cycle.causes = subst (λ (cs : List ℕ). AreChosen d cs cycle.causes) same h.caused in
    record { channels = same; causes = same_causes d other.channels cycle.causes other.causes chosen k.caused }
determined d (Cyclic cycle) (Free contents) h k = k.no_cycle (has_cycle (depends d) cycle.channels h.shown)
determined d (Free contents) (Misrouted i p fault) h k = not_routed d i p fault k h.routed
determined d (Free contents) (Cyclic cycle) h k = h.no_cycle (has_cycle (depends d) cycle.channels k.shown)
determined d (Free contents) (Free other) h k =
    let numbers = same_levels (depends d) (length (ends_of d)) contents.numbers other.numbers h.levels k.levels in
    let places = zip_determined (IsPlaceList d) (λ f xs ys a b. same_places d f xs ys a b) (all_flows d) contents.places other.places h.places k.places in
    λ i. record { numbers = numbers i; places = places i }
