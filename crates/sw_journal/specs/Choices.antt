-- Which step of a link end a journal chooses.
use Rattle.std.specs.Prelude.{Err, None, Ok, Option, Result, Some, true, ℕ, ◌≡◌}
use Rattle.std.specs.declared.alloc.AllocError.{AllocError}
use Rattle.sw_history.specs.Next.{IsIdle, MayFollow}
use Rattle.sw_journal.specs.Record.{JournalView, Declares}
use Rattle.sw_load.specs.History.{packets_of}
use Rattle.sw_machine.specs.Parts.{link_end_of}
use Rattle.sw_machine.specs.Steps.{Step}
use Rattle.sw_machine.specs.Model.{network_of}
use Rattle.sw_machine.specs.StepValues.{machine_step}
use Rattle.sw_machine.specs.declared.step.Step.{Step as CodeStep}

-- the step may be the next
abbrev pub IsNext : JournalView → Step → Type 0
IsNext j step = MayFollow (network_of j.declared) (packets_of j.load) j.history step

-- the step belongs to the link end where channel e starts, and may be the next
pub record IsStepOf (j : JournalView) (e : ℕ) (step : Step) : Type 0 where
  pub belongs : link_end_of (network_of j.declared) step ≡ e
  pub next : IsNext j step

-- Some: that step of the link end may be the next; None: no step of it may
abbrev pub Chooses : JournalView → ℕ → Option CodeStep → Type 0
Chooses j e None = IsIdle (network_of j.declared) (packets_of j.load) j.history e
Chooses j e (Some step) = IsStepOf j e (machine_step step)

-- What choose_or_mark answers, where it found the first journal and left the second.
-- Some: that step of the link end may be the next; None: no step of it may, and its mark is the history's length from now on; Err: there is
-- no memory for a step. After Some and Err nothing has changed.
abbrev pub ChoosesOrMarks : JournalView → ℕ → Result (Option CodeStep) AllocError → JournalView → Type 0
ChoosesOrMarks j e (Ok (Some step)) k = Chooses j e (Some step) × (k ≡ j)
ChoosesOrMarks j e (Ok None) k = Declares j e true k
ChoosesOrMarks j e (Err error) k = k ≡ j
