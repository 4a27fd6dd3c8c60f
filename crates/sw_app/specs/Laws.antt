-- Laws of the answers.
use Rattle.std.specs.Prelude.{◌≡◌, ℕ, List}
use Rattle.sw_app.specs.RouteAnswers.{IsRouteAnswer}
use Rattle.sw_app.specs.VerdictAnswers.{IsDecideAnswer, IsReportAnswer}

-- `route` has one answer for each file and name
abbrev pub RouteHasOneAnswer : Type 0
RouteHasOneAnswer =
    (name bytes text other : List ℕ) (status number : ℕ)
    → IsRouteAnswer name bytes text status → IsRouteAnswer name bytes other number → (text ≡ other) × (status ≡ number)

-- `decide` has one answer for each file
abbrev pub DecideHasOneAnswer : Type 0
DecideHasOneAnswer =
    (bytes text other : List ℕ) (status number : ℕ)
    → IsDecideAnswer bytes text status → IsDecideAnswer bytes other number → (text ≡ other) × (status ≡ number)

-- `report` has one answer for each file
abbrev pub ReportHasOneAnswer : Type 0
ReportHasOneAnswer =
    (bytes text other : List ℕ) (status number : ℕ)
    → IsReportAnswer bytes text status → IsReportAnswer bytes other number → (text ≡ other) × (status ≡ number)
