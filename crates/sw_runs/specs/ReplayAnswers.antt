-- What `replay` finds and answers (this project's choice).
use Rattle.std.specs.Prelude.{◌≡◌, ℕ, List, [], ◌∷◌, codes, length, option_map, Option, Some, None, Result, Ok, Err}
use Rattle.std.specs.Fmt.{decimal}
use Rattle.serde_json.specs.Data.{Data}
use Rattle.sw_config.specs.Entries.{Declaration}
use Rattle.sw_engine.specs.LineAnswers.{TwoFilesInLines}
use Rattle.sw_json.specs.AnswerValues.{file_fault_value}
use Rattle.sw_json.specs.Answering.{IsCommandOutcome, IsLongFile, Results}
use Rattle.sw_json.specs.FaultValues.{schedule_fault_value}
use Rattle.sw_json.specs.ObjectAnswers.{TwoFilesAsObject}
use Rattle.sw_json.specs.declared.files.Release.{Release}
use Rattle.sw_machine.specs.Steps.{Step}
use Rattle.sw_output.specs.Lines.{line}
use Rattle.sw_schedule.specs.Locked.{TellsLocked}
use Rattle.sw_schedule.specs.Replays.{IsReplayed}
use Rattle.sw_schedule.specs.Reports.{report_of}
use Rattle.sw_schedule.specs.Schedule.{steps_of_text}
use Rattle.sw_text.specs.Ends.{AnswersToTwo}
use Rattle.sw_runs.specs.ReplayTexts.{replay_status, replay_text}
use Rattle.sw_runs.specs.ReplayValues.{replay_value}
use Rattle.sw_runs.specs.declared.replay_finding.ReplayFinding.{ReplayFinding}
use Rattle.sw_runs.specs.declared.replay_finding.ReplayFinding.TheVariants.{TooLong, WrongLine, Replayed}
use Rattle.sw_runs.specs.declared.replay_finding.ReplayReport.{ReplayReport}

-- ---- findings

-- the steps, what is so of the state that they lead to, and where they lock the network up what each cell has of it
pub record IsReportOf (d : Declaration) (steps : List Step) (r : ReplayReport) : Type 0 where
  pub schedule : r.schedule ≡ steps
  pub replayed : IsReplayed d steps (report_of r.replayed)
  pub parts : TellsLocked d steps (option_map (λ all. all.items) r.parts)

-- of the steps that a schedule's text lists, or of its first wrong line
abbrev pub IsScheduleFinding : Declaration → Result (List Step) ℕ → ReplayFinding → Type 0
IsScheduleFinding d (Ok steps) (Replayed report) = IsReportOf d steps report
IsScheduleFinding d (Ok steps) (WrongLine number) = ⊥
IsScheduleFinding d (Ok steps) TooLong = ⊥
IsScheduleFinding d (Err number) found = found ≡ WrongLine number

-- what is found of the text of a schedule file, None where it is too long, and of a network
abbrev pub IsReplayFinding : Option (List ℕ) → Declaration → ReplayFinding → Type 0
IsReplayFinding (Some bytes) d found = IsScheduleFinding d (steps_of_text d bytes) found
IsReplayFinding None d found = found ≡ TooLong

-- of a network, whatever the schedule: there is a list of packets for each node
abbrev pub IsReplayOf : Declaration → ReplayFinding → Type 0
IsReplayOf d TooLong = Unit {0}
IsReplayOf d (WrongLine number) = Unit {0}
IsReplayOf d (Replayed report) = length report.replayed.came_out.items ≡ length d.nodes

-- ---- what is told

-- a schedule's first wrong line
abbrev pub bad_line : ℕ → List ℕ
bad_line number = line (codes "fault S1 BadLine" ∷ decimal number ∷ [])

-- 0 where all steps are made and the network is not locked up then
abbrev pub finding_status : ReplayFinding → ℕ
finding_status TooLong = 3
finding_status (WrongLine number) = 3
finding_status (Replayed report) = replay_status report.replayed.outcome report.replayed.stuck

-- in lines
abbrev pub finding_lines : Declaration → ReplayFinding → List ℕ
finding_lines d TooLong = line (codes "fault A1 TooLong" ∷ [])
finding_lines d (WrongLine number) = bad_line number
finding_lines d (Replayed report) = replay_text d (report_of report.replayed)

-- as values, by the schedule file's path
abbrev pub finding_results : List ℕ → Declaration → ReplayFinding → Results
finding_results path d TooLong = IsLongFile path
finding_results path d (WrongLine number) = IsCommandOutcome (file_fault_value path (schedule_fault_value number)) 3
finding_results path d (Replayed report) =
    IsCommandOutcome (replay_value d (report_of report.replayed)) (replay_status report.replayed.outcome report.replayed.stuck)

-- a value is told with the finding's status
pub finding_results_have_status : (path : List ℕ) (d : Declaration) (found : ReplayFinding) (value : Data) (status : ℕ)
    → finding_results path d found value status → status ≡ finding_status found
finding_results_have_status path d TooLong value status is = is.1
finding_results_have_status path d (WrongLine number) value status is = is.1
finding_results_have_status path d (Replayed report) value status is = is.1

-- of the bytes of a network file and of a schedule file: all that is wrong with the first comes before what is with the second
abbrev pub IsReplayAnswer : AnswersToTwo
IsReplayAnswer = TwoFilesInLines IsReplayFinding finding_lines finding_status

-- as an object, by the files' paths
abbrev pub IsReplayJson : List ℕ → List ℕ → Release → AnswersToTwo
IsReplayJson = TwoFilesAsObject (codes "replay") IsReplayFinding (λ path second d found. finding_results path d found)
