-- What `route` finds and answers (this project's choice).
use Rattle.std.specs.Prelude.{◌≡◌, ℕ, List, [], ◌∷◌, codes, position, slice_get, Option, Some, None}
use Rattle.std.specs.Str.{bytes_eq}
use Rattle.sw_config.specs.Entries.{Declaration, FlowEntry, all_flows, flow_names}
use Rattle.sw_engine.specs.LineAnswers.{NetworkFileInLines}
use Rattle.sw_flow.specs.Faults.{first_fault_of}
use Rattle.sw_flow.specs.Places.{IsPlaceList}
use Rattle.sw_output.specs.Lines.{line}
use Rattle.sw_text.specs.Ends.{Answers}
use Rattle.sw_app.specs.RouteTexts.{outcome_status, route_text}
use Rattle.sw_app.specs.declared.route_finding.FlowRoute.{FlowRoute}
use Rattle.sw_app.specs.declared.route_finding.RouteFinding.{RouteFinding}
use Rattle.sw_app.specs.declared.route_finding.RouteFinding.TheVariants.{UnknownFlow, Found}

-- all places of the flow of that number in their order, and the first of them that has a fault
pub record IsFlowRoute (d : Declaration) (route : FlowRoute) : Type 0 where
  pub flow : FlowEntry
  pub numbered : slice_get (all_flows d) route.flow ≡ Some flow
  pub list : IsPlaceList d flow route.places.items
  pub first_fault : route.fault ≡ first_fault_of d flow route.places.items

-- of a network, whatever the name
abbrev pub IsRouteOf : Declaration → RouteFinding → Type 0
IsRouteOf d UnknownFlow = Unit {0}
IsRouteOf d (Found route) = IsFlowRoute d route

-- with the flow of that number, if a word names one
abbrev pub IsFlowFound : Declaration → Option ℕ → RouteFinding → Type 0
IsFlowFound d None finding = finding ≡ UnknownFlow
IsFlowFound d (Some flow) UnknownFlow = ⊥
IsFlowFound d (Some flow) (Found route) = (route.flow ≡ flow) × IsFlowRoute d route

-- what is found of a network, with the flow of that name; a reply flow has a name too
abbrev pub IsRouteFinding : List ℕ → Declaration → RouteFinding → Type 0
IsRouteFinding name d finding = IsFlowFound d (position (bytes_eq name) (flow_names (all_flows d))) finding

-- what is told of it in lines
abbrev pub route_lines : Declaration → RouteFinding → List ℕ
route_lines d UnknownFlow = line (codes "fault F7 UnknownName argument" ∷ [])
route_lines d (Found route) = route_text d route.flow route.places.items route.fault

abbrev pub route_status : RouteFinding → ℕ
route_status UnknownFlow = 3
route_status (Found route) = outcome_status route.fault

-- of the bytes of a file
abbrev pub IsRouteAnswer : List ℕ → List ℕ → Answers
IsRouteAnswer name = NetworkFileInLines (IsRouteFinding name) route_lines route_status
