-- What `run` finds and answers (this project's choice).
use Rattle.std.specs.Prelude.{◌≡◌, ℕ, Bool, true, false, List, [], ◌∷◌, codes, length, option_map, string_bytes, Option, Some, None, Result, Ok, Err}
use Rattle.serde_json.specs.Data.{Data}
use Rattle.sw_config.specs.Entries.{Declaration}
use Rattle.sw_engine.specs.LineAnswers.{TwoFilesInLines}
use Rattle.sw_json.specs.Answering.{IsCommandOutcome, IsFaultyFile, IsLongFile, OfFile, Results}
use Rattle.sw_json.specs.ObjectAnswers.{TwoFilesAsObject}
use Rattle.sw_json.specs.declared.files.Release.{Release}
use Rattle.sw_load.specs.Load.{LoadEntry, load_text}
use Rattle.sw_output.specs.Lines.{line}
use Rattle.sw_run.specs.Outcomes.{IsOutcome, steps_of}
use Rattle.sw_run.specs.declared.outcome.Outcome.{Outcome}
use Rattle.sw_schedule.specs.Runs.{readable_text}
use Rattle.sw_text.specs.Ends.{AnswersToTwo}
use Rattle.sw_text.specs.FaultTexts.{fault_text}
use Rattle.sw_text.specs.declared.fault.TextFault.{TextFault}
use Rattle.sw_runs.specs.RunTexts.{report_text, stop_status}
use Rattle.sw_runs.specs.RunValues.{run_value}
use Rattle.sw_runs.specs.Summaries.{IsWantedSummary}
use Rattle.sw_runs.specs.declared.run_finding.RunFinding.{RunFinding}
use Rattle.sw_runs.specs.declared.run_finding.RunFinding.TheVariants.{TooLong, Faulty, Ran}
use Rattle.sw_runs.specs.declared.run_finding.RunReport.{RunReport}
use Rattle.sw_runs.specs.declared.run_finding.RunSchedule.{RunSchedule}
use Rattle.sw_runs.specs.declared.run_finding.RunSchedule.TheVariants as schedule
use Rattle.sw_runs.specs.declared.run_finding.Wants.{Wants}

-- ---- what is wanted besides

-- neither a schedule nor a summary
abbrev pub nothing_wanted : Wants
nothing_wanted = record { schedule = false; summary = false }

-- a schedule's text; None where it would be too long
abbrev pub schedule_text : RunSchedule → Option (List ℕ)
schedule_text (schedule.Text text) = Some (string_bytes text)
schedule_text schedule.TooLong = None

-- the schedule of the outcome's steps, if it is wanted
abbrev pub IsWantedSchedule : Bool → Declaration → Outcome → Option RunSchedule → Type 0
IsWantedSchedule true d o (Some told) = schedule_text told ≡ readable_text d (steps_of o)
IsWantedSchedule true d o None = ⊥
IsWantedSchedule false d o told = told ≡ None

-- the schedule and the summary
abbrev pub AreBesides : Wants → Declaration → List LoadEntry → Outcome → Option RunSchedule → Option (List ℕ) → Type 0
AreBesides wants d load o told summary = IsWantedSchedule wants.schedule d o told × IsWantedSummary wants.summary d load o summary

-- ---- findings

-- what an outcome says, and what is wanted besides
pub record TellsOutcome (wants : Wants) (d : Declaration) (load : List LoadEntry) (o : Outcome) (r : RunReport) : Type 0 where
  pub stop : r.stop ≡ o.stop
  pub undelivered : r.undelivered ≡ o.undelivered
  pub came_out : r.came_out ≡ o.came_out
  pub besides : AreBesides wants d load o r.schedule (option_map string_bytes r.summary)

-- it was found of that outcome
abbrev pub IsReportOf : Wants → Declaration → List LoadEntry → Outcome → RunFinding → Type 0
IsReportOf wants d load o TooLong = ⊥
IsReportOf wants d load o (Faulty fault) = ⊥
IsReportOf wants d load o (Ran report) = TellsOutcome wants d load o report

-- of the load that a text lists: of an outcome that is true of a run of it, in at most so many steps; runs of one load may have different outcomes.
-- Or of the text's first fault.
abbrev pub IsFoundOfLoad : ℕ → Wants → Declaration → Result (List LoadEntry) TextFault → RunFinding → Type 0
IsFoundOfLoad limit wants d (Ok load) found = (o : Outcome) × IsOutcome d load limit o × IsReportOf wants d load o found
IsFoundOfLoad limit wants d (Err fault) found = found ≡ Faulty fault

-- what is found of the text of a load file, None where it is too long, and of a network
abbrev pub IsRunFinding : ℕ → Wants → Option (List ℕ) → Declaration → RunFinding → Type 0
IsRunFinding limit wants (Some bytes) d found = IsFoundOfLoad limit wants d (load_text d bytes) found
IsRunFinding limit wants None d found = found ≡ TooLong

-- of a network, whatever the load: there is a list of packets for each node
abbrev pub IsRunOf : Declaration → RunFinding → Type 0
IsRunOf d TooLong = Unit {0}
IsRunOf d (Faulty fault) = Unit {0}
IsRunOf d (Ran report) = length report.came_out.items ≡ length d.nodes

-- ---- what is told

-- 0 where all was delivered
abbrev pub run_status : RunFinding → ℕ
run_status TooLong = 3
run_status (Faulty fault) = 3
run_status (Ran report) = stop_status report.stop

-- in lines
abbrev pub run_lines : Declaration → RunFinding → List ℕ
run_lines d TooLong = line (codes "fault A1 TooLong" ∷ [])
run_lines d (Faulty fault) = line (fault_text fault ∷ [])
run_lines d (Ran report) = report_text d report

-- as values, by the load file's path and text
abbrev pub run_results : List ℕ → Option (List ℕ) → Declaration → RunFinding → Results
run_results path second d TooLong = IsLongFile path
run_results path second d (Faulty fault) = OfFile path (λ bytes. IsFaultyFile path bytes fault) second
run_results path second d (Ran report) = IsCommandOutcome (run_value d report) (stop_status report.stop)

-- of the bytes of a network file and of a load file: all that is wrong with the first comes before what is with the second
abbrev pub IsRunAnswer : ℕ → AnswersToTwo
IsRunAnswer limit = TwoFilesInLines (IsRunFinding limit nothing_wanted) run_lines run_status

-- as an object, by the files' paths
abbrev pub IsRunJson : ℕ → List ℕ → List ℕ → Release → AnswersToTwo
IsRunJson limit = TwoFilesAsObject (codes "run") (IsRunFinding limit nothing_wanted) run_results

-- ---- statuses

faulty_has_status : (path : List ℕ) (second : Option (List ℕ)) (fault : TextFault) (value : Data) (status : ℕ)
    → OfFile path (λ bytes. IsFaultyFile path bytes fault) second value status → status ≡ 3
faulty_has_status path (Some bytes) fault value status (told, at, is) = is.1
faulty_has_status path None fault value status is = is.1

-- a value is told with the finding's status
pub run_results_have_status : (path : List ℕ) (second : Option (List ℕ)) (d : Declaration) (found : RunFinding) (value : Data) (status : ℕ)
    → run_results path second d found value status → status ≡ run_status found
run_results_have_status path second d TooLong value status is = is.1
run_results_have_status path second d (Faulty fault) value status is = faulty_has_status path second fault value status is
run_results_have_status path second d (Ran report) value status is = is.1
