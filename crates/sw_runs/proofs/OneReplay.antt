-- `replay` has one answer, in each form.
use Rattle.std.proofs.Common.{Err, List, [], ◌∷◌, None, Ok, Option, Result, Some, ap, refl, subst, sym, ℕ, ◌∙◌, ◌≡◌}
use Rattle.std.specs.Prelude.{codes}
use Rattle.serde_json.specs.Data.{Data}
use Rattle.sw_config.specs.Entries.{Declaration}
use Rattle.sw_engine.proofs.LineEnds.{one_in_lines}
use Rattle.sw_json.proofs.OneObject.{one_object, status_of_lines}
use Rattle.sw_json.proofs.OneResult.{AreOne, one_outcome}
use Rattle.sw_json.specs.Answering.{read_value}
use Rattle.sw_machine.specs.Steps.{Step}
use Rattle.sw_schedule.proofs.OneReport.{replays_are_determined}
use Rattle.sw_schedule.specs.Reports.{Report, report_of}
use Rattle.sw_schedule.specs.Schedule.{steps_of_text}
use Rattle.sw_runs.specs.Laws.{ReplayHasOneAnswer, ReplayHasOneObject, ReplayHasStatusOfText}
use Rattle.sw_runs.specs.ReplayAnswers.{IsReplayFinding, IsScheduleFinding, finding_lines, finding_results, finding_results_have_status, finding_status}
use Rattle.sw_runs.specs.ReplayTexts.{replay_status, replay_text}
use Rattle.sw_runs.specs.ReplayValues.{replay_value}
use Rattle.sw_runs.specs.declared.replay_finding.ReplayFinding.{ReplayFinding}
use Rattle.sw_runs.specs.declared.replay_finding.ReplayFinding.TheVariants.{TooLong, WrongLine, Replayed}
use Rattle.sw_runs.specs.declared.replay_finding.ReplayReport.{ReplayReport}

-- the same is told of two findings
record AreToldAlike (d : Declaration) (x y : ReplayFinding) : Type 0 where
  pub lines : finding_lines d x ≡ finding_lines d y
  pub status : finding_status x ≡ finding_status y
  pub results : (path : List ℕ) (value : Data) (number : ℕ) → finding_results path d y value number → finding_results path d x value number

-- of equal ones
of_equal : (d : Declaration) (x y : ReplayFinding) → x ≡ y → AreToldAlike d x y
of_equal d x y same =
    subst (λ (z : ReplayFinding). AreToldAlike d x z) same (record { lines = refl; status = refl; results = λ path value number is. is })

-- of those with equal reports
of_reports : (d : Declaration) (x y : ReplayReport) → report_of x.replayed ≡ report_of y.replayed → AreToldAlike d (Replayed x) (Replayed y)
of_reports d x y same = record {
  lines = ap (replay_text d) same;
  status = ap (λ (r : Report). replay_status r.outcome r.stuck) same;
  results = λ path value number is.
      (is.0 ∙ sym (ap (replay_value d) same), is.1 ∙ sym (ap (λ (r : Report). replay_status r.outcome r.stuck) same));
}

of_steps : (d : Declaration) (r : Result (List Step) ℕ) (x y : ReplayFinding) → IsScheduleFinding d r x → IsScheduleFinding d r y → AreToldAlike d x y
of_steps d (Ok steps) (Replayed x) (Replayed y) h k =
    of_reports d x y (replays_are_determined d steps (report_of x.replayed) (report_of y.replayed) h.replayed k.replayed)
of_steps d (Ok steps) (Replayed x) (WrongLine n) h k = absurd k
of_steps d (Ok steps) (Replayed x) TooLong h k = absurd k
of_steps d (Ok steps) (WrongLine n) y h k = absurd h
of_steps d (Ok steps) TooLong y h k = absurd h
of_steps d (Err n) x y h k = of_equal d x y (h ∙ sym k)

told_alike : (second : Option (List ℕ)) (d : Declaration) (x y : ReplayFinding) → IsReplayFinding second d x → IsReplayFinding second d y → AreToldAlike d x y
told_alike (Some bytes) d x y h k = of_steps d (steps_of_text d bytes) x y h k
told_alike None d x y h k = of_equal d x y (h ∙ sym k)

-- ---- in lines

pub replay_has_one_answer : ReplayHasOneAnswer
replay_has_one_answer (Some bytes) second text other status number x y =
    one_in_lines (IsReplayFinding second) finding_lines finding_status
    (λ d f g h k. let same = told_alike second d f g h k in (same.lines, same.status)) bytes text other status number x y
replay_has_one_answer None second text other status number x y = (x.0 ∙ sym y.0, x.1 ∙ sym y.1)

-- ---- as an object

one_result : (path : List ℕ) (d : Declaration) (f : ReplayFinding) → AreOne (finding_results path d f)
one_result path d TooLong value said status number p q = one_outcome _ _ value said status number p q
one_result path d (WrongLine line) value said status number p q = one_outcome _ _ value said status number p q
one_result path d (Replayed report) value said status number p q = one_outcome _ _ value said status number p q

pub replay_has_one_object : ReplayHasOneObject
replay_has_one_object path other release first second =
    one_object (IsReplayFinding second) (λ d found. finding_results other d found) (codes "replay") path
    (λ read. read_value path read ∷ read_value other second ∷ []) release
    (λ d value said status number (x, h, is) (y, k, tells).
    one_result other d x value said status number is ((told_alike second d x y h k).results other said number tells)) first

pub replay_has_status_of_text : ReplayHasStatusOfText
replay_has_status_of_text path other release first second =
    status_of_lines (IsReplayFinding second) (λ d found. finding_results other d found) (codes "replay") path
    (λ read. read_value path read ∷ read_value other second ∷ []) release finding_status
    (λ d x value status is. finding_results_have_status other d x value status is) (IsReplayFinding second) finding_lines finding_status
    (λ d x y h k. (told_alike second d x y h k).status) first
