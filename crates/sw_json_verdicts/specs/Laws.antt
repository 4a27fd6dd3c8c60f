-- Laws of the answers.
use Rattle.std.specs.Prelude.{ℕ, List, Option}
use Rattle.sw_app.specs.CheckAnswers.{IsCheckAnswer}
use Rattle.sw_app.specs.RouteAnswers.{IsRouteAnswer}
use Rattle.sw_app.specs.VerdictAnswers.{IsReportAnswer}
use Rattle.sw_text.specs.Ends.{IfLimited}
use Rattle.sw_json.specs.declared.files.Release.{Release}
use Rattle.sw_json.specs.Laws.{AreOneButForFaults, HaveOneStatus}
use Rattle.sw_json_verdicts.specs.CheckResults.{IsCheckJson}
use Rattle.sw_json_verdicts.specs.ReportResults.{IsReportJson}
use Rattle.sw_json_verdicts.specs.RouteResults.{IsRouteJson}

-- `route` has one answer for each file, path and name
abbrev pub RouteHasOneAnswer : Type 0
RouteHasOneAnswer = (path name : List ℕ) (release : Release) (given : Option (List ℕ)) → AreOneButForFaults (IsRouteJson path name release given)

-- `check` has one answer for each two files and paths
abbrev pub CheckHasOneAnswer : Type 0
CheckHasOneAnswer = (path other : List ℕ) (release : Release) (first second : Option (List ℕ)) → AreOneButForFaults (IsCheckJson path other release first second)

-- `report` has one answer for each file and path
abbrev pub ReportHasOneAnswer : Type 0
ReportHasOneAnswer = (path : List ℕ) (release : Release) (given : Option (List ℕ)) → AreOneButForFaults (IsReportJson path release given)

-- the status is that of the text answer to the same files
pub record HaveStatusesOfTexts : Type 0 where
  pub of_route :
      (path name : List ℕ) (release : Release) (given : Option (List ℕ))
      → HaveOneStatus (IsRouteJson path name release given) (IfLimited given (IsRouteAnswer name))
  pub of_check :
      (path other : List ℕ) (release : Release) (first second : Option (List ℕ))
      → HaveOneStatus (IsCheckJson path other release first second) (IsCheckAnswer first second)
  pub of_report :
      (path : List ℕ) (release : Release) (given : Option (List ℕ))
      → HaveOneStatus (IsReportJson path release given) (IfLimited given IsReportAnswer)
