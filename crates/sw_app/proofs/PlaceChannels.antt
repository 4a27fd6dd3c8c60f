-- The channels of a flow's places.
use Rattle.std.proofs.Common.{◌≡◌, ◌<◌, List, length, get_or, subst, sym}
use Rattle.std.specs.Prelude.{All}
use Rattle.std.proofs.lemmas.List.Elements.{Contains-get_or}
use Rattle.std.proofs.lemmas.Option.{slice_get_within}
use Rattle.sw_config.specs.Entries.{Declaration, FlowEntry, all_flows}
use Rattle.sw_flow.specs.declared.place.Place.{Place}
use Rattle.sw_flow.specs.Places.{IsPlaceList, ends_of}
use Rattle.sw_flow.proofs.Stepping.{places_are_in}
use Rattle.sw_app.specs.RouteAnswers.{IsFlowRoute}
use Rattle.sw_app.specs.declared.route_finding.FlowRoute.{FlowRoute}

channels_within : (d : Declaration) (f : FlowEntry) (places : List Place) → IsPlaceList d f places → All (λ p. p.channel < length (ends_of d)) places
channels_within d f places are = λ k p lt.
    let q = get_or places k p in
    (places_are_in d f q.channel q.deleted ((are.member q).0 (Contains-get_or places k p lt))).0

-- the places of a route, where list is the list of these
pub route_within : (d : Declaration) (route : FlowRoute) (list : List Place) → IsFlowRoute d route → list ≡ route.places.items → All (λ p. p.channel < length (ends_of d)) list
route_within d route list is same =
    subst (All (λ p. p.channel < length (ends_of d))) (sym same) (channels_within d is.flow route.places.items is.list)

-- the flow of a route is there
pub flow_within : (d : Declaration) (route : FlowRoute) → IsFlowRoute d route → route.flow < length (all_flows d)
flow_within d route is = slice_get_within (all_flows d) route.flow is.flow is.numbered
