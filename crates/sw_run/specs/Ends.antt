-- What a journal tells at the end of a run.
use Rattle.std.specs.Prelude.{List, length, ℕ, ◌<◌, ◌≡◌}
use Rattle.sw_journal.specs.Asked.{IsDrained, IsKeptBack, IsStuck, IsWaiting}
use Rattle.sw_journal.specs.Record.{JournalView, LeadsTo}
use Rattle.sw_machine.specs.Packets.{Packet}
use Rattle.sw_machine.specs.State.{State}
use Rattle.sw_run.specs.Outcomes.{AreOut}
use Rattle.sw_run.specs.declared.outcome.Stop.{Stop}
use Rattle.sw_run.specs.declared.outcome.Stop.TheVariants.{Drained, JournalFull, Memory, Stuck, Waiting}

-- a list for each node, of the packets that came out there, in the state after the journal's history
abbrev pub AreOutBy : JournalView → ℕ → List (List Packet) → Type 0
AreOutBy j nodes lists = (s : State) → LeadsTo j s → AreOut nodes s lists

-- neither drained nor stuck, and it does not wait for ever
abbrev pub IsOpen : JournalView → Type 0
IsOpen j = (IsDrained j → ⊥) × (IsStuck j → ⊥) × (IsWaiting j → ⊥)

-- why a run ends with this journal
abbrev pub EndsBy : JournalView → Stop → Type 0
EndsBy j Drained = IsDrained j
EndsBy j Stuck = IsStuck j
EndsBy j Waiting = IsWaiting j × IsKeptBack j
EndsBy j JournalFull = (length j.history ≡ j.limit) × IsOpen j
EndsBy j Memory = (length j.history < j.limit) × IsOpen j
