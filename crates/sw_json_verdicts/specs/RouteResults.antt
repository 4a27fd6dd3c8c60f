-- What `route` answers with an object of JSON (this project's choice).
use Rattle.std.specs.Prelude.{◌≡◌, ℕ, List, [], ◌∷◌, codes, map, Option, Some, None}
use Rattle.std.specs.Option.{option_to_list}
use Rattle.serde_json.specs.Data.{Data, array, null, object, string, member, no_members}
use Rattle.serde_json.specs.View.{items_of}
use Rattle.sw_app.specs.RouteAnswers.{IsRouteFinding, route_status}
use Rattle.sw_app.specs.RouteTexts.{outcome_status}
use Rattle.sw_app.specs.declared.route_finding.FlowRoute.{FlowRoute}
use Rattle.sw_app.specs.declared.route_finding.RouteFinding.{RouteFinding}
use Rattle.sw_app.specs.declared.route_finding.RouteFinding.TheVariants.{UnknownFlow, Found}
use Rattle.sw_config.specs.Entries.{Declaration}
use Rattle.sw_flow.specs.declared.fault.RouteFault.{RouteFault}
use Rattle.sw_flow.specs.declared.place.Place.{Place}
use Rattle.sw_json.specs.AnswerValues.{file_fault_value}
use Rattle.sw_json.specs.Answering.{IsCommandOutcome, Results, read_value}
use Rattle.sw_engine.specs.Engines.{AnswersToOne}
use Rattle.sw_json.specs.FaultValues.{unknown_flow_value}
use Rattle.sw_json.specs.ObjectAnswers.{FilesAsObject}
use Rattle.sw_json.specs.PlaceValues.{misrouted_fault_value, place_value}
use Rattle.sw_json.specs.Simple.{texts_value}
use Rattle.sw_json.specs.declared.files.Release.{Release}
use Rattle.sw_linter.specs.CirclingTexts.{IsCirclingText}
use Rattle.sw_output.specs.FlowTexts.{flow_name}

-- a place with its fault, or null where no place has one
abbrev pub fault_or_null : Option (Place × RouteFault) → Data
fault_or_null None = null
fault_or_null (Some (p, fault)) = misrouted_fault_value p fault

abbrev pub route_kind : Option (Place × RouteFault) → List ℕ
route_kind None = codes "routed"
route_kind (Some found) = codes "misrouted"

-- the name of the flow of that number, what there is to note of it, all its places in their order, and the fault of one of them, or null
abbrev pub told_route : Declaration → ℕ → Option (List ℕ) → List Place → Option (Place × RouteFault) → Data
told_route d flow note places fault =
    object (member (codes "fault") (fault_or_null fault)
    (member (codes "flow") (string (flow_name d flow))
    (member (codes "kind") (string (route_kind fault))
    (member (codes "lint") (texts_value (option_to_list note))
    (member (codes "places") (array (items_of (map (place_value d) places))) no_members)))))

-- the object that stands for a flow; if its packets can come back to a place, or none arrives, that is noted
abbrev pub flow_results : Declaration → FlowRoute → Results
flow_results d route value status =
    (note : Option (List ℕ)) × IsCirclingText d route.flow note
    × IsCommandOutcome (told_route d route.flow note route.places.items route.fault) (outcome_status route.fault) value status

-- that for what was found of the network of the file of that path
abbrev pub route_results : List ℕ → Declaration → RouteFinding → Results
route_results path d UnknownFlow = IsCommandOutcome (file_fault_value path unknown_flow_value) 3
route_results path d (Found route) = flow_results d route

-- with the finding's status
pub route_has_status : (path : List ℕ) (d : Declaration) (found : RouteFinding) (value : Data) (status : ℕ) → route_results path d found value status
    → status ≡ route_status found
route_has_status path d UnknownFlow value status is = is.1
route_has_status path d (Found route) value status is = is.2.1

-- of the file of that path and a flow's name
abbrev pub IsRouteJson : List ℕ → List ℕ → Release → AnswersToOne
IsRouteJson path name = FilesAsObject (codes "route") (IsRouteFinding name) (route_results path) path (λ given. read_value path given ∷ [])
