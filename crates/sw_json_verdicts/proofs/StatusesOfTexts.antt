-- The statuses are those of the text answers.
use Rattle.std.proofs.Common.{◌≡◌, ℕ, List, [], ◌∷◌, ap, refl}
use Rattle.std.specs.Prelude.{Option, codes}
use Rattle.sw_app.proofs.OneRoute.{same_routes, same_status}
use Rattle.sw_app.specs.CheckAnswers.{IsCheckAnswer, IsCheckFinding, check_lines, check_status}
use Rattle.sw_app.specs.RouteAnswers.{IsRouteAnswer, IsRouteFinding, route_lines, route_status}
use Rattle.sw_app.specs.VerdictAnswers.{IsReportAnswer, IsReportFinding, report_lines}
use Rattle.sw_app.specs.declared.route_finding.RouteFinding.{RouteFinding}
use Rattle.sw_config.specs.Entries.{Declaration}
use Rattle.sw_json.proofs.OneObject.{status_of_lines}
use Rattle.sw_json.specs.Answering.{read_value}
use Rattle.sw_json.specs.Laws.{HaveOneStatus}
use Rattle.sw_json.specs.declared.files.Release.{Release}
use Rattle.sw_json_verdicts.proofs.OneAnswer.{one_finding}
use Rattle.sw_json_verdicts.specs.CheckResults.{IsCheckJson, check_has_status, check_results}
use Rattle.sw_json_verdicts.specs.Laws.{HaveStatusesOfTexts}
use Rattle.sw_json_verdicts.specs.ReportResults.{IsReportJson, report_results}
use Rattle.sw_json_verdicts.specs.RouteResults.{IsRouteJson, route_has_status, route_results}
use Rattle.sw_text.specs.Ends.{IfLimited}

-- ---- `route`

-- two findings of a network have one status
once : (name : List ℕ) (d : Declaration) (x y : RouteFinding) → IsRouteFinding name d x → IsRouteFinding name d y → route_status x ≡ route_status y
once name d x y h k = same_status x y (same_routes name d x y h k)

of_route : (path name : List ℕ) (release : Release) (given : Option (List ℕ)) → HaveOneStatus (IsRouteJson path name release given) (IfLimited given (IsRouteAnswer name))
of_route path name release given =
    status_of_lines (IsRouteFinding name) (route_results path) (codes "route") path (λ read. read_value path read ∷ []) release
    route_status (λ d x value status is. route_has_status path d x value status is) (IsRouteFinding name) route_lines route_status (once name) given

-- ---- `check`

of_check : (path other : List ℕ) (release : Release) (first second : Option (List ℕ)) → HaveOneStatus (IsCheckJson path other release first second) (IsCheckAnswer first second)
of_check path other release first second =
    status_of_lines (IsCheckFinding second) (λ d found. check_results other d found) (codes "check") path
    (λ read. read_value path read ∷ read_value other second ∷ []) release check_status (λ d x value status is. check_has_status other d x value status is)
    (IsCheckFinding second) check_lines check_status (λ d x y h k. ap check_status (one_finding second d x y h k)) first

-- ---- `report`

of_report : (path : List ℕ) (release : Release) (given : Option (List ℕ)) → HaveOneStatus (IsReportJson path release given) (IfLimited given IsReportAnswer)
of_report path release given =
    status_of_lines IsReportFinding (λ d found. report_results d found.findings) (codes "report") path (λ read. read_value path read ∷ []) release
    (λ _. 0) (λ d x value status is. is.2.1) IsReportFinding report_lines (λ _. 0) (λ d x y h k. refl) given

-- ---- all

pub statuses_are_those_of_texts : HaveStatusesOfTexts
statuses_are_those_of_texts = record {
  of_route = of_route;
  of_check = of_check;
  of_report = of_report;
}
