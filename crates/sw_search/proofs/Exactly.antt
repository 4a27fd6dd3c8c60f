-- Exactly one verdict holds, and numbers rise exactly where there is no cycle.
use Rattle.std.proofs.Common.{◌≡◌, ℕ, zero, suc, ◌+◌, ◌<◌, ◌≤◌, ◌⊎◌, length, ap, inl, inr, arith}
use Rattle.std.specs.Prelude.{slice_index}
use Rattle.std.proofs.lemmas.List.Elements.{All-contains}
use Rattle.sw_config.specs.Entries.{Declaration, all_flows}
use Rattle.sw_flow.specs.Places.{ends_of}
use Rattle.sw_flow.specs.Faults.{IsWellRouted}
use Rattle.sw_graph.specs.Levels.{Chain, HasCycle}
use Rattle.sw_graph.proofs.Existence.{levels_are_where_no_cycle_is}
use Rattle.sw_search.specs.declared.verdict.Verdict.TheVariants.{Misrouted, Cyclic, Free}
use Rattle.sw_search.specs.Laws.{OneVerdictHolds, RisingIsWhereNoCycleIs, RoutedAndCyclic, RoutedAndFree, SomeMisrouted, VerdictsTell}
use Rattle.sw_search.specs.Verdicts.{AllWellRouted, depends}
use Rattle.sw_search.proofs.Decided.{among, depends_decided, some_cycle, some_or_all}
use Rattle.sw_search.proofs.Determined.{faulty}
use Rattle.sw_search.proofs.Levels.{has_cycle, rising_by}
use Rattle.sw_cert.proofs.Lists.{Contains-at}

-- ---- numbers that rise

rises_over : (dep : ℕ → ℕ → Type 0) (number : ℕ → ℕ) → ((c e : ℕ) → dep c e → number c < number e) → (n a b : ℕ) → Chain dep n a b → n + number a ≤ number b
rises_over dep number rising zero a b h = let e : number a ≡ number b = ap number h in omega arith
rises_over dep number rising (suc n) a b h =
    let before = rises_over dep number rising n a h.0 h.1 in
    let last = rising h.0 b h.2 in
    omega arith

no_cycle_by : (dep : ℕ → ℕ → Type 0) (number : ℕ → ℕ) → ((c e : ℕ) → dep c e → number c < number e) → HasCycle dep → ⊥
no_cycle_by dep number rising h =
    let c : ℕ = h.1 in
    let around : Chain dep (suc h.0) c c = h.2 in
    let more = rises_over dep number rising (suc h.0) c c around in
    omega arith

pub rising_is_where_no_cycle_is : RisingIsWhereNoCycleIs
rising_is_where_no_cycle_is d valid = (
  λ free.
      let r = (levels_are_where_no_cycle_is (depends d) (length (ends_of d)) (among d valid) (depends_decided d valid)).0 free in
      ((λ c. slice_index r.0 c), rising_by (depends d) (length (ends_of d)) (among d valid) r.0 r.1),
  λ h. no_cycle_by (depends d) h.0 h.1,
)

-- ---- the three verdicts

pub some_not_all : (d : Declaration) → SomeMisrouted d → AllWellRouted d → ⊥
some_not_all d h all = h.2 (All-contains (IsWellRouted d) (all_flows d) h.0 all h.1)

one_of_three : (d : Declaration) → SomeMisrouted d ⊎ AllWellRouted d → HasCycle (depends d) ⊎ (HasCycle (depends d) → ⊥) → SomeMisrouted d ⊎ (RoutedAndCyclic d ⊎ RoutedAndFree d)
one_of_three d (inl some) cycle = inl some
one_of_three d (inr all) (inl cycle) = inr (inl (all, cycle))
one_of_three d (inr all) (inr none) = inr (inr (all, none))

pub one_verdict_holds : OneVerdictHolds
one_verdict_holds d valid = record {
  some = one_of_three d (some_or_all d valid) (some_cycle d valid);
  not_first_second = λ h k. some_not_all d h k.0;
  not_first_third = λ h k. some_not_all d h k.0;
  not_second_third = λ h k. k.1 h.1;
}

pub verdicts_tell : VerdictsTell
verdicts_tell d (Misrouted i place fault) h = (h.flow, Contains-at (all_flows d) i h.flow h.numbered, faulty d i place fault h)
verdicts_tell d (Cyclic cycle) h = (h.routed, has_cycle (depends d) cycle.channels h.shown)
verdicts_tell d (Free contents) h = (h.routed, h.no_cycle)
