-- A flow is well routed where its list of places has no faulty one.
use Rattle.std.proofs.Common.{◌≡◌, List, [], ◌∷◌, Option, Some, None, option_map, Contains, refl, subst, ◌⊎◌, inl, inr, arith}
use Rattle.sw_config.specs.Checked.{first_of}
use Rattle.sw_config.specs.Entries.{FlowEntry, Declaration}
use Rattle.sw_flow.specs.declared.fault.RouteFault.{RouteFault}
use Rattle.sw_flow.specs.declared.place.Place.{Place}
use Rattle.sw_flow.specs.Faults.{fault_of, first_fault_of}
use Rattle.sw_flow.specs.Laws.{WellRoutedByList}
use Rattle.sw_flow.proofs.Listed.{Contains-head, Contains-later, Contains-cases}

module _ (d : Declaration) (f : FlowEntry) where
  abbrev Faultless : Place → Type 0
  Faultless p = fault_of d f p.channel p.deleted ≡ None

  each_faultless : (places : List Place) → first_fault_of d f places ≡ None → (p : Place) → Contains places p → Faultless p
  each_faultless [] none p h = absurd (omega (arith, h.1))
  each_faultless (q ∷ places) none p h = by (fault_of d f q.channel q.deleted) refl none (Contains-cases q p places h) (each_faultless places)
    where
      by : (o : Option RouteFault) → fault_of d f q.channel q.deleted ≡ o → first_of (option_map (λ x. (q, x)) o) (first_fault_of d f places) ≡ None
          → (q ≡ p) ⊎ Contains places p → (first_fault_of d f places ≡ None → (r : Place) → Contains places r → Faultless r) → Faultless p
      by (Some x) at faulty here rest = cc
      by None at later (inl same) rest = subst Faultless same at
      by None at later (inr more) rest = rest later p more

  none_faulty : (places : List Place) → ((p : Place) → Contains places p → Faultless p) → first_fault_of d f places ≡ None
  none_faulty [] each = refl
  none_faulty (q ∷ places) each = rw (each q (Contains-head q places)) (none_faulty places (λ p h. each p (Contains-later q p places h)))

pub well_routed_by_list : WellRoutedByList
well_routed_by_list d f places list = (
  λ none c k place. each_faultless d f places none (record { channel = c; deleted = k }) ((list.member (record { channel = c; deleted = k })).1 place),
  λ well. none_faulty d f places (λ p h. well p.channel p.deleted ((list.member p).0 h)),
)
