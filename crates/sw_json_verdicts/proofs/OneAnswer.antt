-- `route`, `check` and `report` have one answer, but for the places of faults.
use Rattle.std.proofs.Common.{◌≡◌, ◌∙◌, ℕ, List, [], ◌∷◌, ap, subst, sym}
use Rattle.std.specs.Prelude.{Err, None, Ok, Option, Result, Some, codes, option_map}
use Rattle.serde_json.specs.Data.{Data}
use Rattle.sw_app.proofs.OneReport.{dependencies_once, places_once}
use Rattle.sw_app.proofs.OneRoute.{SayTheSame, same_routes}
use Rattle.sw_app.specs.CheckAnswers.{IsCertificateFinding, IsCheckFinding, IsJudged}
use Rattle.sw_app.specs.declared.check_finding.CheckFinding.{CheckFinding}
use Rattle.sw_app.specs.declared.check_finding.CheckFinding.TheVariants.{TooLong, WrongLine, Refused, Accepted}
use Rattle.sw_app.specs.RouteAnswers.{IsRouteFinding}
use Rattle.sw_app.specs.RouteTexts.{outcome_status}
use Rattle.sw_app.specs.VerdictAnswers.{IsReportFinding}
use Rattle.sw_app.specs.declared.route_finding.RouteFinding.{RouteFinding}
use Rattle.sw_app.specs.declared.route_finding.RouteFinding.TheVariants.{UnknownFlow, Found}
use Rattle.sw_cert.specs.Reading.{State}
use Rattle.sw_cert.specs.Text.{Contents, contents_of, read_text}
use Rattle.sw_cert.specs.Refusals.{refusal_of}
use Rattle.sw_cert.specs.declared.refusal.Refusal.{Refusal}
use Rattle.sw_config.specs.Entries.{Declaration}
use Rattle.sw_search.specs.Findings.{AreFindings}
use Rattle.sw_search.specs.declared.verdict.Findings.{Findings}
use Rattle.sw_json.specs.Answering.{read_value}
use Rattle.sw_json.specs.Simple.{texts_value}
use Rattle.sw_circles.specs.Circlings.{IsCirclingOf}
use Rattle.sw_circles.proofs.Lawful.{one_told}
use Rattle.sw_linter.specs.CirclingTexts.{IsCirclingText, circling_text}
use Rattle.sw_linter.specs.LintTexts.{AreLintTexts}
use Rattle.sw_linter.proofs.Lawful.{texts_determined}
use Rattle.sw_json_verdicts.specs.CheckResults.{check_results}
use Rattle.sw_json_verdicts.specs.Laws.{CheckHasOneAnswer, ReportHasOneAnswer, RouteHasOneAnswer}
use Rattle.sw_json_verdicts.specs.ReportResults.{found_value, report_results, report_value}
use Rattle.sw_json_verdicts.specs.RouteResults.{route_results, told_route}
use Rattle.sw_json.proofs.OneObject.{one_object}
use Rattle.sw_json.proofs.OneResult.{AreOne, one_outcome}
use Rattle.sw_json.proofs.OneVerdict.{one_verdict_value}

-- ---- `route`

-- the note on a flow is determined
same_note : (d : Declaration) (flow other : ℕ) (text told : Option (List ℕ)) → flow ≡ other → IsCirclingText d flow text → IsCirclingText d other told → text ≡ told
same_note d flow other _ told same (c, is, text) (e, also, words) =
    text ∙ ap (option_map (circling_text d)) (one_told d other c e (subst (λ n. IsCirclingOf d n c) same is) also) ∙ sym words

same_result : (path : List ℕ) (d : Declaration) (x y : RouteFinding) → SayTheSame x y → (value said : Data) (status number : ℕ)
    → route_results path d x value status → route_results path d y said number → (value ≡ said) × (status ≡ number)
same_result path d UnknownFlow UnknownFlow same value said status number is tells = (is.0 ∙ sym tells.0, is.1 ∙ sym tells.1)
same_result path d UnknownFlow (Found other) same value said status number is tells = absurd same
same_result path d (Found route) UnknownFlow same value said status number is tells = absurd same
same_result path d (Found route) (Found other) (flow, places, fault) value said status number (note, noted, is) (told, also, tells) =
    let notes = same_note d route.flow other.flow note told flow noted also in (
      is.0 ∙ (λ t. told_route d (flow t) (notes t) (places t) (fault t)) ∙ sym tells.0,
      is.1 ∙ ap outcome_status fault ∙ sym tells.1,
    )

pub route_has_one_answer : RouteHasOneAnswer
route_has_one_answer path name release given =
    one_object (IsRouteFinding name) (route_results path) (codes "route") path (λ read. read_value path read ∷ []) release
    (λ d value said status number (x, h, is) (y, k, tells).
    let same = same_result path d x y (same_routes name d x y h k) value said status number is tells in
    (same.1, λ good. same.0)) given

-- ---- `check`

pub one_judged : (contents : Contents) (o : Option Refusal) (x y : CheckFinding) → IsJudged contents o x → IsJudged contents o y → x ≡ y
one_judged contents None x y h k = h ∙ sym k
one_judged contents (Some refusal) x y h k = h ∙ sym k

one_certificate : (d : Declaration) (r : Result State ℕ) (x y : CheckFinding) → IsCertificateFinding d r x → IsCertificateFinding d r y → x ≡ y
one_certificate d (Ok said) x y h k = one_judged (contents_of said) (refusal_of d (contents_of said)) x y h k
one_certificate d (Err line) x y h k = h ∙ sym k

-- there is one finding
pub one_finding : (second : Option (List ℕ)) (d : Declaration) (x y : CheckFinding) → IsCheckFinding second d x → IsCheckFinding second d y → x ≡ y
one_finding (Some bytes) d x y h k = one_certificate d (read_text bytes) x y h k
one_finding None d x y h k = h ∙ sym k

one_result : (other : List ℕ) (d : Declaration) (f : CheckFinding) → AreOne (check_results other d f)
one_result other d TooLong value said status number p q = one_outcome _ _ value said status number p q
one_result other d (WrongLine line) value said status number p q = one_outcome _ _ value said status number p q
one_result other d (Refused contents refusal) value said status number p q = one_outcome _ _ value said status number p q
one_result other d Accepted value said status number p q = one_outcome _ _ value said status number p q

pub check_has_one_answer : CheckHasOneAnswer
check_has_one_answer path other release first second =
    one_object (IsCheckFinding second) (λ d found. check_results other d found) (codes "check") path
    (λ read. read_value path read ∷ read_value other second ∷ []) release
    (λ d value said status number (x, h, is) (y, k, tells).
    one_result other d x value said status number is
    (subst (λ (f : CheckFinding). check_results other d f said number) (sym (one_finding second d x y h k)) tells)) first

-- ---- `report`

same_report : (d : Declaration) (lint told : List (List ℕ)) (f g : Findings) → AreLintTexts d lint → AreLintTexts d told → AreFindings d f → AreFindings d g
    → found_value d lint f ≡ found_value d told g
same_report d lint told f g noted also h k =
    let notes = texts_determined d lint told noted also in
    let places = places_once d f.places g.places h.places k.places in
    let dependencies = dependencies_once d f.dependencies g.dependencies h.dependencies k.dependencies in
    let verdict = one_verdict_value d f.verdict g.verdict h.verdict k.verdict in
    (λ i. report_value d (texts_value (notes i)) (places i) (dependencies i) (verdict i))

pub report_has_one_answer : ReportHasOneAnswer
report_has_one_answer path release given =
    one_object IsReportFinding (λ d found. report_results d found.findings) (codes "report") path (λ read. read_value path read ∷ []) release
    (λ d value said status number (x, h, (lint, noted, is)) (y, k, (told, also, tells)).
    (is.1 ∙ sym tells.1, λ good. is.0 ∙ same_report d lint told x.findings y.findings noted also h k ∙ sym tells.0)) given
