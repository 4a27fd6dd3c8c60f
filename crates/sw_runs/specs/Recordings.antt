-- What is told of a run whose steps may be written as a schedule (this project's choice).
use Rattle.std.specs.Prelude.{◌≡◌, ◌⊎◌, ℕ, ◌<◌, List, Option, Some, None, Ok, Err, length, string_bytes, take}
use Rattle.std.specs.Io.KnownBytes.{Appends, Keeps}
use Rattle.sw_engine.specs.Tellings.{Findings}
use Rattle.sw_engine.specs.declared.network_file.NetworkFile.{NetworkFile}
use Rattle.sw_engine.specs.declared.network_file.NetworkFile.TheVariants.{Unread}
use Rattle.sw_text.specs.Ends.{Answers, IsTold}
use Rattle.sw_text.specs.declared.write_answer.Ended.{Ended}
use Rattle.sw_text.specs.declared.write_answer.Ended.TheVariants.{Status, ReadFailed, WriteFailed}
use Rattle.sw_runs.specs.declared.run_finding.RunFinding.{RunFinding}
use Rattle.sw_runs.specs.declared.run_finding.RunFinding.TheVariants as finding
use Rattle.sw_runs.specs.declared.run_finding.RunSchedule.{RunSchedule}
use Rattle.sw_runs.specs.declared.run_finding.RunSchedule.TheVariants as schedule

-- the schedule that was found, if one is wanted and a run was made
abbrev pub schedule_found : Findings RunFinding → Option RunSchedule
schedule_found (Some (Ok (finding.Ran report))) = report.schedule
schedule_found (Some (Ok (finding.Faulty fault))) = None
schedule_found (Some (Ok finding.TooLong)) = None
schedule_found (Some (Err none)) = None
schedule_found None = None

-- a beginning of the schedule that lacks something
abbrev pub IsCutOff : Option (List ℕ) → Option (List ℕ) → List ℕ → Type 0
IsCutOff old new schedule = (count : ℕ) × (count < length schedule) × Appends old new (take count schedule)

-- What two writers got, that of the answer and that of the schedule: the answer alone; the whole schedule and then the answer, or where the schedule
-- was not written whole, no answer; where the schedule is too long, nothing at all, with status 6.
abbrev pub IsScheduleTold : Option RunSchedule → List ℕ → ℕ → Option (List ℕ) → Option (List ℕ) → Option (List ℕ) → Option (List ℕ) → Ended → Type 0
IsScheduleTold None text status old new kept written ended = IsTold old new text status ended × Keeps kept written
IsScheduleTold (Some (schedule.Text steps)) text status old new kept written ended =
    (Appends kept written (string_bytes steps) × IsTold old new text status ended)
    ⊎ (IsCutOff kept written (string_bytes steps) × Keeps old new × (ended ≡ WriteFailed))
IsScheduleTold (Some schedule.TooLong) text status old new kept written ended = (ended ≡ Status 6) × Keeps old new × Keeps kept written

-- one of the answers was told so, or that memory was wanted, and then nothing was written of a schedule
abbrev pub TellsRun : List ℕ → Answers → Option RunSchedule → Option (List ℕ) → Option (List ℕ) → Option (List ℕ) → Option (List ℕ) → Ended → Type 0
TellsRun memory P steps old new kept written ended =
    ((text : List ℕ) × (status : ℕ) × P text status × IsScheduleTold steps text status old new kept written ended)
    ⊎ (IsTold old new memory 5 ended × Keeps kept written)

-- the same of a file that was read, and of a read that failed nothing
abbrev pub IsRunTold : List ℕ → Answers → Option RunSchedule → NetworkFile → Option (List ℕ) → Option (List ℕ) → Option (List ℕ) → Option (List ℕ) → Ended → Type 0
IsRunTold memory P steps Unread old new kept written ended = (ended ≡ ReadFailed) × Keeps old new × Keeps kept written
IsRunTold memory P steps file old new kept written ended = TellsRun memory P steps old new kept written ended
