-- What a replay tells: it is one answer, and that of a run's steps is the run's.
use Rattle.std.specs.Prelude.{◌≡◌, ℕ, true, false, List, Ok, Option, Some, length}
use Rattle.sw_config.specs.Entries.{Declaration}
use Rattle.sw_file.specs.Network.{network_text}
use Rattle.sw_load.specs.Load.{LoadEntry, load_text}
use Rattle.sw_schedule.specs.declared.replayed.ReplayEnd.TheVariants.{Made}
use Rattle.sw_schedule.specs.Replays.{IsReplayed}
use Rattle.sw_schedule.specs.Reports.{Report}
use Rattle.sw_run.specs.Outcomes.{IsOutcome, came_out_of, steps_of}
use Rattle.sw_run.specs.declared.outcome.Outcome.{Outcome}
use Rattle.sw_run.specs.declared.outcome.Stop.TheVariants.{Drained, Stuck, Waiting}
use Rattle.sw_schedule.specs.Schedule.{steps_of_text}
use Rattle.sw_schedule.specs.Runs.{readable_text}
use Rattle.sw_json.specs.Laws.{AreOneButForFaults, HaveOneStatus}
use Rattle.sw_json.specs.declared.files.Release.{Release}
use Rattle.sw_runs.specs.ReplayAnswers.{IsReplayAnswer, IsReplayJson}
use Rattle.sw_runs.specs.RunAnswers.{IsRunAnswer, IsRunJson}

-- all steps are made; as much is undelivered, and the same packets came out, in their order; the network is locked up where the run was
-- stuck, and is not where it was drained or waits
pub record TellsAs (o : Outcome) (r : Report) : Type 0 where
  pub made : r.outcome ≡ Made (length (steps_of o))
  pub undelivered : r.remaining ≡ o.undelivered
  pub came_out : r.came_out ≡ came_out_of o
  pub stuck : o.stop ≡ Stuck → r.stuck ≡ true
  pub drained : o.stop ≡ Drained → r.stuck ≡ false
  pub waiting : o.stop ≡ Waiting → r.stuck ≡ false

-- so it is of each outcome of a run, and of each replay of its steps
abbrev pub ReplaysAreAsTold : Type 0
ReplaysAreAsTold = (d : Declaration) (load : List LoadEntry) (limit : ℕ) (o : Outcome) (r : Report) → IsOutcome d load limit o → IsReplayed d (steps_of o) r → TellsAs o r

-- The schedule of an outcome is read as its steps, and each replay of them tells what the outcome does: so it is of each run of a load file on
-- a network file.
abbrev pub SchedulesAreRetold : Type 0
SchedulesAreRetold = (network_bytes load_bytes text : List ℕ) (d : Declaration) (load : List LoadEntry) (limit : ℕ) (o : Outcome)
    → network_text network_bytes ≡ Ok d → load_text d load_bytes ≡ Ok load → IsOutcome d load limit o → readable_text d (steps_of o) ≡ Some text
    → (steps_of_text d text ≡ Ok (steps_of o)) × ((r : Report) → IsReplayed d (steps_of o) r → TellsAs o r)

-- `replay` has one answer for each two files
abbrev pub ReplayHasOneAnswer : Type 0
ReplayHasOneAnswer =
    (first second : Option (List ℕ)) (text other : List ℕ) (status number : ℕ)
    → IsReplayAnswer first second text status → IsReplayAnswer first second other number → (text ≡ other) × (status ≡ number)

-- as an object it has one for each two files and paths
abbrev pub ReplayHasOneObject : Type 0
ReplayHasOneObject =
    (path other : List ℕ) (release : Release) (first second : Option (List ℕ)) → AreOneButForFaults (IsReplayJson path other release first second)

-- with the status of the text answer to the same files
abbrev pub ReplayHasStatusOfText : Type 0
ReplayHasStatusOfText =
    (path other : List ℕ) (release : Release) (first second : Option (List ℕ))
    → HaveOneStatus (IsReplayJson path other release first second) (IsReplayAnswer first second)

-- the status of each object of `run` is that of a text answer that may be given to the same files
abbrev pub RunHasStatusesOfTexts : Type 0
RunHasStatusesOfTexts =
    (limit : ℕ) (path other : List ℕ) (release : Release) (first second : Option (List ℕ)) (text : List ℕ) (status : ℕ)
    → IsRunJson limit path other release first second text status → (said : List ℕ) × IsRunAnswer limit first second said status
