-- `route` finds one thing, and has one answer.
use Rattle.std.proofs.Common.{◌≡◌, ◌∙◌, ℕ, List, [], ◌∷◌, ◌++◌, ap, refl, subst, sym}
use Rattle.std.specs.Prelude.{None, Option, Some, codes, flat_map, position, slice_get}
use Rattle.std.specs.Str.{bytes_eq}
use Rattle.sw_config.specs.Entries.{Declaration, FlowEntry, all_flows, flow_names}
use Rattle.sw_engine.proofs.LineEnds.{one_in_lines}
use Rattle.sw_flow.specs.Faults.{first_fault_of}
use Rattle.sw_flow.specs.Places.{IsPlaceList}
use Rattle.sw_flow.proofs.Sorted.{same_places}
use Rattle.sw_output.specs.FlowTexts.{flow_name}
use Rattle.sw_output.specs.Lines.{line}
use Rattle.sw_app.specs.Laws.{RouteHasOneAnswer}
use Rattle.sw_app.specs.RouteAnswers.{IsFlowFound, IsRouteFinding, route_lines, route_status}
use Rattle.sw_app.specs.RouteTexts.{outcome_line, outcome_status, place_line}
use Rattle.sw_app.specs.declared.route_finding.RouteFinding.{RouteFinding}
use Rattle.sw_app.specs.declared.route_finding.RouteFinding.TheVariants.{UnknownFlow, Found}

-- both say that no flow has the name, or the same places of the same flow
abbrev pub SayTheSame : RouteFinding → RouteFinding → Type 0
SayTheSame UnknownFlow UnknownFlow = Unit {0}
SayTheSame UnknownFlow (Found other) = ⊥
SayTheSame (Found route) UnknownFlow = ⊥
SayTheSame (Found route) (Found other) = (route.flow ≡ other.flow) × (route.places.items ≡ other.places.items) × (route.fault ≡ other.fault)

same_found : (d : Declaration) (o : Option ℕ) (x y : RouteFinding) → IsFlowFound d o x → IsFlowFound d o y → SayTheSame x y
same_found d None x y h k = subst (λ (z : RouteFinding). SayTheSame z y) (sym h) (subst (λ (z : RouteFinding). SayTheSame UnknownFlow z) (sym k) tt)
same_found d (Some i) UnknownFlow y h k = absurd h
same_found d (Some i) (Found route) UnknownFlow h k = absurd k
same_found d (Some i) (Found route) (Found other) (at, h) (there, k) =
    let number : route.flow ≡ other.flow = at ∙ sym there in
    let entry : Some h.flow ≡ Some k.flow = sym h.numbered ∙ (ap (slice_get (all_flows d)) number ∙ k.numbered) in
    let flow : h.flow ≡ k.flow = cc in
    let listed : IsPlaceList d k.flow route.places.items = subst (λ (f : FlowEntry). IsPlaceList d f route.places.items) flow h.list in
    let places : route.places.items ≡ other.places.items = same_places d k.flow route.places.items other.places.items listed k.list in
    (number, places, h.first_fault ∙ ((λ t. first_fault_of d (flow t) (places t)) ∙ sym k.first_fault))

-- what is found of a network is determined
pub same_routes : (name : List ℕ) (d : Declaration) (x y : RouteFinding) → IsRouteFinding name d x → IsRouteFinding name d y → SayTheSame x y
same_routes name d x y h k = same_found d (position (bytes_eq name) (flow_names (all_flows d))) x y h k

same_lines : (d : Declaration) (x y : RouteFinding) → SayTheSame x y → route_lines d x ≡ route_lines d y
same_lines d UnknownFlow UnknownFlow same = refl
same_lines d UnknownFlow (Found other) same = absurd same
same_lines d (Found route) UnknownFlow same = absurd same
same_lines d (Found route) (Found other) (flow, places, fault) =
    λ t. line (codes "flow" ∷ flow_name d (flow t) ∷ []) ++ (flat_map (place_line d) (places t) ++ outcome_line (fault t))

pub same_status : (x y : RouteFinding) → SayTheSame x y → route_status x ≡ route_status y
same_status UnknownFlow UnknownFlow same = refl
same_status UnknownFlow (Found other) same = absurd same
same_status (Found route) UnknownFlow same = absurd same
same_status (Found route) (Found other) (flow, places, fault) = ap outcome_status fault

pub route_has_one_answer : RouteHasOneAnswer
route_has_one_answer name =
    one_in_lines (IsRouteFinding name) route_lines route_status
    (λ d x y h k. let same = same_routes name d x y h k in (same_lines d x y same, same_status x y same))
