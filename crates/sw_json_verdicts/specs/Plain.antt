-- Results whose answers have a text that reads back.
use Rattle.std.specs.Prelude.{ℕ, List, Option}
use Rattle.sw_config.specs.Entries.{Declaration}
use Rattle.sw_flow.specs.declared.fault.RouteFault.{RouteFault}
use Rattle.sw_flow.specs.declared.place.Place.{Place}
use Rattle.sw_json.specs.Plain.{IsPlain}
use Rattle.sw_search.specs.declared.verdict.Findings.{Findings}
use Rattle.sw_json_verdicts.specs.CheckResults.{Reason, refused_value}
use Rattle.sw_json_verdicts.specs.ReportResults.{found_value}
use Rattle.sw_json_verdicts.specs.RouteResults.{told_route}

-- an object with a list of places
abbrev pub RoutesArePlain : Type 0
RoutesArePlain =
    (d : Declaration) (flow : ℕ) (note : Option (List ℕ)) (places : List Place) (fault : Option (Place × RouteFault))
    → IsPlain 3 (told_route d flow note places fault)

-- one object
abbrev pub RefusalsArePlain : Type 0
RefusalsArePlain = (r : Reason) (text : List ℕ) → IsPlain 1 (refused_value r text)

-- an object round the verdict's
abbrev pub ReportsArePlain : Type 0
ReportsArePlain = (d : Declaration) (lint : List (List ℕ)) (f : Findings) → IsPlain 5 (found_value d lint f)
