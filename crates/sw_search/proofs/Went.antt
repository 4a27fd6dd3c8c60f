-- The way to the first fault of a flow.
use Rattle.std.proofs.Common.{◌≡◌, ℕ, List, [], ◌∷◌, Option, Some, None, option_map, Contains, refl, ap, subst}
use Rattle.std.specs.Prelude.{IfSome, IsSome, slice_get}
use Rattle.sw_topo.specs.Checked.{first_of}
use Rattle.sw_config.specs.Entries.{FlowEntry, Declaration, all_flows}
use Rattle.sw_flow.specs.declared.fault.RouteFault.{RouteFault}
use Rattle.sw_flow.specs.declared.place.Place.{Place}
use Rattle.sw_flow.specs.Faults.{fault_of, first_fault_of}
use Rattle.sw_flow.specs.Places.{IsPlace}
use Rattle.sw_flow.specs.Ways.{IsWayIfPlace}
use Rattle.sw_flow.proofs.Listed.{Contains-head, Contains-later}
use Rattle.sw_search.specs.Verdicts.{IsMisrouted}
use Rattle.sw_search.specs.Explanations.{GoesWrong}

-- the first place with a fault is one of the places
pub faulty_listed : (d : Declaration) (f : FlowEntry) (p : Place) (fault : RouteFault) (places : List Place) → first_fault_of d f places ≡ Some (p, fault) → Contains places p
faulty_listed d f p fault [] e = absurd cc
faulty_listed d f p fault (q ∷ places) e = by (fault_of d f q.channel q.deleted) e (faulty_listed d f p fault places)
  where
    by : (o : Option RouteFault) → first_of (option_map (λ x. (q, x)) o) (first_fault_of d f places) ≡ Some (p, fault) → (first_fault_of d f places ≡ Some (p, fault) → Contains places p) → Contains (q ∷ places) p
    by (Some x) here rest = let both : (q, x) ≡ (p, fault) = cc in let same : q ≡ p = ap (λ (r : Place × RouteFault). r.0) both in subst (λ (r : Place). Contains (q ∷ places) r) same (Contains-head q places)
    by None later rest = Contains-later q p places (rest later)

-- a way to it, if one is looked for
abbrev pub Sought : Declaration → ℕ → Place → Option (List Place) → Type 0
Sought d i p found = IfSome (slice_get (all_flows d) i) (λ f. IsWayIfPlace d f p found)

module _ (d : Declaration) (i : ℕ) (p : Place) (fault : RouteFault) (h : IsMisrouted d i p fault) where
  is_place : IsPlace d h.flow p.channel p.deleted
  is_place = (h.listed.member p).0 (faulty_listed d h.flow p fault h.places h.first)

  of_flow : (found : Option (List Place)) → Sought d i p found → IsWayIfPlace d h.flow p found
  of_flow found sought = subst (λ (o : Option FlowEntry). IfSome o (λ f. IsWayIfPlace d f p found)) h.numbered sought

  -- there is one
  pub some_way : (found : Option (List Place)) → Sought d i p found → IsSome found
  some_way None sought = absurd (of_flow None sought is_place)
  some_way (Some places) sought = refl

  pub goes_wrong : (found : Option (List Place)) (places : List Place) → Sought d i p found → found ≡ Some places → GoesWrong d i p fault places
  goes_wrong found places sought is = record { misrouted = h; way = subst (λ (o : Option (List Place)). IsWayIfPlace d h.flow p o) is (of_flow found sought) }

pub some_of_map : {A B : Type 0} (f : A → B) (o : Option A) → IsSome (option_map f o) → IsSome o
some_of_map f None h = absurd cc
some_of_map f (Some x) h = refl
