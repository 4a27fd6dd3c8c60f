-- What is noted beside a journal.
use Rattle.std.specs.Prelude.{Bool, Err, IfSome, List, None, Ok, Option, Result, Some, count_by, length, not, slice_get, true, ℕ, ◌-◌, ◌<◌, ◌==◌, ◌≡◌, ◌≤◌}
use Rattle.sw_journal.specs.Asked.{IsStill}
use Rattle.sw_journal.specs.Numbers.{Numbers}
use Rattle.sw_journal.specs.Record.{JournalView}
use Rattle.sw_journal.specs.declared.fault.JournalFault.{JournalFault}
use Rattle.sw_journal.specs.declared.fault.JournalFault.TheVariants as fault
use Rattle.sw_run.specs.declared.notes.Notes.{Notes}
use Rattle.sw_run.specs.declared.outcome.Stop.TheVariants.{Drained, JournalFull, Memory, Stuck, Waiting}
use Rattle.sw_run.specs.declared.turn.Turn.{Turn}
use Rattle.sw_run.specs.declared.turn.Turn.TheVariants.{Idle, Over}

-- a link end with this mark was not found idle after so many steps
abbrev pub is_awake : ℕ → Option ℕ → Bool
is_awake count None = true
is_awake count (Some k) = not (k == count)

-- how many link ends have no mark at the journal's present length
abbrev pub awake_ends : JournalView → ℕ
awake_ends j = count_by (is_awake (length j.history)) j.marks

-- the link end where channel e starts has none
abbrev pub IsAwake : JournalView → ℕ → Type 0
IsAwake j e = IfSome (slice_get j.marks e) (λ mark. is_awake (length j.history) mark ≡ true)

-- what stands at that place of the list, if a link end of the network does, has one
abbrev pub IsMarkedAt : JournalView → List (ℕ × Numbers) → ℕ → Type 0
IsMarkedAt j ends place = IfSome (slice_get ends place) (λ p. IfSome (slice_get j.marks p.0) (λ mark. mark ≡ Some (length j.history)))

-- What is noted is so: how many link ends there are, and how many of them have no mark at the present length; where the run is noted as stuck, no
-- step may follow, where as full, the history is as long as it may be; else it is noted as over for want of memory alone.
pub record AreTrueNotes (j : JournalView) (notes : Notes) : Type 0 where
  pub all : notes.ends ≡ length j.marks
  pub count : notes.awake ≡ awake_ends j
  pub stuck : notes.stop ≡ Some Stuck → IsStill j
  pub full : notes.stop ≡ Some JournalFull → length j.history ≡ j.limit
  pub not_drained : notes.stop ≡ Some Drained → ⊥
  pub not_waiting : notes.stop ≡ Some Waiting → ⊥

-- what is noted where one link end more has its mark: one fewer is awake, and where none is, the run is stuck
abbrev pub Rests : Notes → Turn → Notes → Type 0
Rests before Idle after = (1 < before.awake) × (after ≡ record before { awake = before.awake - 1 })
Rests before Over after = (before.awake ≤ 1) × (after ≡ record before { awake = before.awake - 1; stop = Some Stuck })
Rests before turn after = ⊥

-- What is noted after the journal answered so to a step: where it was made, each link end is awake; where it may not follow, nothing changes; else
-- the run is over.
abbrev pub noted_after : Notes → Result Unit JournalFault → Notes
noted_after before (Ok done) = record before { awake = before.ends }
noted_after before (Err fault.NotEnabled) = before
noted_after before (Err fault.Full) = record before { stop = Some JournalFull }
noted_after before (Err fault.Memory) = record before { stop = Some Memory }
