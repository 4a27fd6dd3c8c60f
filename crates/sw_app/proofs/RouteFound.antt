-- What `route` finds of a network.
use Rattle.std.proofs.Common.{◌≡◌, ℕ, List, refl, subst, sym}
use Rattle.std.specs.Prelude.{IfSome, None, Option, Some, position, slice_get}
use Rattle.std.specs.Str.{bytes_eq}
use Rattle.sw_config.specs.Entries.{Declaration, FlowEntry, all_flows, flow_names}
use Rattle.sw_flow.specs.Faults.{first_fault_of}
use Rattle.sw_flow.specs.Places.{IsPlacesOf}
use Rattle.sw_flow.specs.declared.place.Place.{Place}
use Rattle.sw_app.specs.RouteAnswers.{IsFlowFound, IsFlowRoute, IsRouteFinding}
use Rattle.sw_app.specs.declared.route_finding.FlowRoute.{FlowRoute}
use Rattle.sw_app.specs.declared.route_finding.RouteFinding.TheVariants.{UnknownFlow, Found}

-- no flow has the name
pub none_found : (name : List ℕ) (d : Declaration) → position (bytes_eq name) (flow_names (all_flows d)) ≡ None → IsRouteFinding name d UnknownFlow
none_found name d is = subst (λ (o : Option ℕ). IsFlowFound d o UnknownFlow) (sym is) refl

-- the flow of that number, with the first fault of a list that has the same places
is_route : (d : Declaration) (route : FlowRoute) (list : List Place) → list ≡ route.places.items → IsPlacesOf d route.flow route.places.items
    → IfSome (slice_get (all_flows d) route.flow) (λ f. route.fault ≡ first_fault_of d f list) → IsFlowRoute d route
is_route d route list same of first =
    let at : route.fault ≡ first_fault_of d of.flow list =
    subst (λ (o : Option FlowEntry). IfSome o (λ f. route.fault ≡ first_fault_of d f list)) of.numbered first in
    record {
      flow = of.flow;
      numbered = of.numbered;
      list = of.list;
      first_fault = subst (λ (l : List Place). route.fault ≡ first_fault_of d of.flow l) same at;
    }

pub flow_found : (name : List ℕ) (d : Declaration) (route : FlowRoute) (list : List Place) → position (bytes_eq name) (flow_names (all_flows d)) ≡ Some route.flow
    → list ≡ route.places.items → IsPlacesOf d route.flow route.places.items
    → IfSome (slice_get (all_flows d) route.flow) (λ f. route.fault ≡ first_fault_of d f list) → IsRouteFinding name d (Found route)
flow_found name d route list is same of first = subst (λ (o : Option ℕ). IsFlowFound d o (Found route)) (sym is) (refl, is_route d route list same of first)
