-- What a call answers that adds a step of one cell to a history with a limit.
use Rattle.std.specs.Prelude.{Bool, Err, List, Ok, Result, [], false, length, true, ℕ, ◌++◌, ◌<◌, ◌∷◌, ◌≡◌}
use Rattle.sw_cell.specs.Places.{machine_cell}
use Rattle.sw_cell.specs.declared.cell.CellId.{CellId}
use Rattle.sw_history.specs.History.{HistoryView, IsNext}
use Rattle.sw_journal.specs.declared.fault.JournalFault.{JournalFault}
use Rattle.sw_journal.specs.declared.fault.JournalFault.TheVariants.{Full, Memory, NotEnabled}
use Rattle.sw_machine.specs.Parts.{cell_of}
use Rattle.sw_machine.specs.State.{State}
use Rattle.sw_machine.specs.Steps.{IsPossible, Step}
use Rattle.sw_machine.specs.Model.{network_of}
use Rattle.sw_config.specs.Entries.{Declaration}

-- true: the step is done at this cell; false: it is not, or it is never possible
abbrev pub IsAtCell : Declaration → CellId → Step → Bool → Type 0
IsAtCell d at step true = cell_of (network_of d) step ≡ machine_cell at
IsAtCell d at step false = cell_of (network_of d) step ≡ machine_cell at → (s : State) → IsPossible (network_of d) s step → ⊥

-- the step may be the next, at this cell
abbrev pub IsNextAt : HistoryView → CellId → Step → Type 0
IsNextAt h at step = (cell_of (network_of h.declared) step ≡ machine_cell at) × IsNext h step

-- the same history but for the steps, which are these, and for the room
pub record IsWithSteps (h : HistoryView) (now : List Step) (k : HistoryView) : Type 0 where
  pub declared : k.declared ≡ h.declared
  pub load : k.load ≡ h.load
  pub steps : k.steps ≡ now

-- Ok: it was the next there, below the limit, and stands at the end now; NotEnabled: it may not be the next there; Full: it may, at the
-- limit; Memory: it may, below the limit. After each refusal the steps are the same.
abbrev pub AddsAt : HistoryView → CellId → ℕ → Step → Result Unit JournalFault → HistoryView → Type 0
AddsAt h at limit step (Ok done) k = IsNextAt h at step × (length h.steps < limit) × IsWithSteps h (h.steps ++ step ∷ []) k
AddsAt h at limit step (Err NotEnabled) k = (IsNextAt h at step → ⊥) × IsWithSteps h h.steps k
AddsAt h at limit step (Err Full) k = IsNextAt h at step × (length h.steps ≡ limit) × IsWithSteps h h.steps k
AddsAt h at limit step (Err Memory) k = IsNextAt h at step × (length h.steps < limit) × IsWithSteps h h.steps k

-- Ok: the step is done at this cell, and there is room for it below the limit; else it is as it is told of one that was to be added
abbrev pub HasRoom : HistoryView → CellId → ℕ → Step → Result Unit JournalFault → HistoryView → Type 0
HasRoom h at limit step (Ok done) k = (cell_of (network_of h.declared) step ≡ machine_cell at) × (length h.steps < limit) × (0 < k.room) × IsWithSteps h h.steps k
HasRoom h at limit step (Err fault) k = AddsAt h at limit step (Err fault) k
