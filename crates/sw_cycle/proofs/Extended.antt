-- A way, and a step behind it.
use Rattle.std.proofs.Common.{◌≡◌, ℕ, ◌<◌, List, [], ◌∷◌, ◌++◌, length, Option, Some, None, refl, sym, ap, ◌∙◌, subst}
use Rattle.std.specs.Prelude.{slice_get, IfSome, IsSome, option_map}
use Rattle.std.proofs.lemmas.List.{append_assoc}
use Rattle.std.proofs.lemmas.Option.{slice_get_within}
use Rattle.sw_config.specs.Entries.{FlowEntry, Declaration, all_flows}
use Rattle.sw_flow.specs.declared.place.Place.{Place}
use Rattle.sw_flow.specs.Ways.{GoesTo, GoesOver, GoesFromStart, IsWayTo, IsWayIfPlace}
use Rattle.sw_cycle.specs.Cycles.{IsFlowCause}
use Rattle.sw_cycle.specs.Causes.{IsStep}

module _ (d : Declaration) (f : FlowEntry) (p q : Place) (step : GoesTo d f p q) where
  over : (x : Place) (before : List Place) → GoesOver d f x (before ++ p ∷ []) → GoesOver d f x (before ++ p ∷ q ∷ [])
  over x [] g = (g.0, (step, tt))
  over x (y ∷ ys) g = (g.0, over y ys g.1)

  extended : (before : List Place) → GoesFromStart d f (before ++ p ∷ []) → GoesFromStart d f (before ++ p ∷ q ∷ [])
  extended [] g = (g.0, (step, tt))
  extended (x ∷ xs) g = (g.0, over x xs g.1)

-- the flow is there, and so is a way to the place
pub flow_inside : (d : Declaration) (i c e : ℕ) (p q : Place) → IsStep d i c e p q → i < length (all_flows d)
flow_inside d i c e p q s = slice_get_within (all_flows d) i s.flow s.numbered

pub way_found : {A : Type 0} (view : A → List Place) (d : Declaration) (i c e : ℕ) (p q : Place) (o : Option A) → IsStep d i c e p q → IfSome (slice_get (all_flows d) i) (λ f. IsWayIfPlace d f p (option_map view o)) → IsSome o
way_found view d i c e p q None s ways = absurd (subst (λ (o : Option FlowEntry). IfSome o (λ f. IsWayIfPlace d f p None)) s.numbered ways s.place)
way_found view d i c e p q (Some x) s ways = refl

pub shown_by_way : (d : Declaration) (i : ℕ) (p q : Place) (found : Option (List Place)) (way places : List Place) → IsStep d i p.channel q.channel p q → IfSome (slice_get (all_flows d) i) (λ f. IsWayIfPlace d f p found) → found ≡ Some way → places ≡ way ++ q ∷ [] → IsFlowCause d i places p.channel q.channel
shown_by_way d i p q found way places s ways some made =
    let f : FlowEntry = s.flow in
    let at : IsWayIfPlace d f p found = subst (λ (o : Option FlowEntry). IfSome o (λ g. IsWayIfPlace d g p found)) s.numbered ways in
    let to : IsWayTo d f p way = subst (λ (o : Option (List Place)). IsWayIfPlace d f p o) some at in
    let goes : GoesFromStart d f (to.before ++ p ∷ []) = subst (λ (l : List Place). GoesFromStart d f l) to.listed to.goes in
    let list : places ≡ to.before ++ p ∷ q ∷ [] = made ∙ ap (λ (l : List Place). l ++ q ∷ []) to.listed ∙ append_assoc to.before (p ∷ []) (q ∷ []) in
    record {
      flow = f;
      numbered = s.numbered;
      goes = subst (λ (l : List Place). GoesFromStart d f l) (sym list) (extended d f p q s.goes to.before goes);
      ends_on = record { before = to.before; last = p; next = q; listed = list; from = refl; to = refl };
    }
