-- What callers see of a journal and of a cell, and what a journal's calls answer.
use Rattle.atomic_table.specs.Seated.{TableId}
use Rattle.atomic_table.specs.Table.{Me}
use Rattle.std.specs.Prelude.{Bool, Err, List, None, Ok, Option, Result, Some, [], false, length, map, replicate, slice_get, slice_set, true, ℕ, ◌*◌, ◌++◌, ◌<◌, ◌∷◌, ◌≡◌, ◌≤◌}
use Rattle.sw_cell.specs.Places.{IsIn, machine_cell}
use Rattle.sw_cell.specs.declared.cell.CellId.{CellId}
use Rattle.sw_history.specs.Next.{IsIdle, MayFollow}
use Rattle.sw_journal.specs.Cells.{all_known, cells_of, numbered}
use Rattle.sw_journal.specs.Marks.{IsTrueMark}
use Rattle.sw_journal.specs.declared.fault.JournalFault.{JournalFault}
use Rattle.sw_journal.specs.declared.fault.JournalFault.TheVariants.{Full, Memory, NotEnabled}
use Rattle.sw_load.specs.History.{IsHistory, packets_of}
use Rattle.sw_load.specs.Load.{LoadEntry}
use Rattle.sw_machine.specs.Network.{IsNetwork}
use Rattle.sw_machine.specs.Parts.{cell_of}
use Rattle.sw_machine.specs.State.{State, empty}
use Rattle.sw_machine.specs.Steps.{Step}
use Rattle.sw_machine.specs.Model.{network_of}
use Rattle.sw_net.specs.declared.numbers.Numbers.{Numbers}
use Rattle.sw_config.specs.Entries.{Declaration}
use Rattle.sw_journal.specs.Views.{knower}
use Rattle.sw_journal.specs.declared.cell_table.SeatChange.{SeatChange}
use Rattle.sw_journal.specs.declared.cell_table.View.{View}

-- what callers see of a journal
pub record JournalView : Type 0 where
  pub name : TableId
  pub declared : Declaration
  pub load : List LoadEntry
  pub limit : ℕ
  pub history : List Step
  pub marks : List (Option ℕ)  -- by link end, after how many steps it was found idle last

-- and of a cell: which it is, and the numbers of its link ends, each named by the channel that starts there
pub record CellView : Type 0 where
  pub name : TableId
  pub id : CellId
  pub ends : List (ℕ × Numbers)

-- s is the state after the journal's history
abbrev pub LeadsTo : JournalView → State → Type 0
LeadsTo j s = IsHistory (network_of j.declared) (packets_of j.load) j.history s

-- the step may be the next of the journal, at this cell
abbrev pub CanCommit : JournalView → CellId → Step → Type 0
CanCommit j at step = (cell_of (network_of j.declared) step ≡ machine_cell at) × MayFollow (network_of j.declared) (packets_of j.load) j.history step

-- the journal with one step more
abbrev pub with_step : JournalView → Step → JournalView
with_step j step = record { name = j.name; declared = j.declared; load = j.load; limit = j.limit; history = j.history ++ step ∷ []; marks = j.marks }

-- the journal with other marks
abbrev pub with_marks : JournalView → List (Option ℕ) → JournalView
with_marks j marks = record { name = j.name; declared = j.declared; load = j.load; limit = j.limit; history = j.history; marks = marks }

-- the cell is one of the network's, and its link ends are those of the network, each with its numbers in the state after the history
pub record IsNowCell (j : JournalView) (cell : CellView) : Type 0 where
  pub inside : IsIn j.declared cell.id
  pub ends : (s : State) → LeadsTo j s → cell.ends ≡ numbered (network_of j.declared) s cell.id

-- the second is the same cell as the first, with its numbers in the state after the journal's history
pub record IsSameCell (j : JournalView) (cell after : CellView) : Type 0 where
  pub name : after.name ≡ cell.name
  pub id : after.id ≡ cell.id
  pub now : IsNowCell j after

-- What commit answers, where it found the first journal and cell and left the second.
-- Ok: the step is at the end of the history, and the cell has its numbers in the state after it; NotEnabled: it may not be the next at this
-- cell; Full: it may, and there are as many steps as there may be; Memory: it may, and there are fewer. A refusal changes nothing.
abbrev pub Commits : JournalView → CellView → Step → Result Unit JournalFault → JournalView → CellView → Type 0
Commits j cell step (Ok done) k after = CanCommit j cell.id step × (length j.history < j.limit) × (k ≡ with_step j step) × IsSameCell k cell after
Commits j cell step (Err NotEnabled) k after = (CanCommit j cell.id step → ⊥) × (k ≡ j) × (after ≡ cell)
Commits j cell step (Err Full) k after = CanCommit j cell.id step × (length j.history ≡ j.limit) × (k ≡ j) × (after ≡ cell)
Commits j cell step (Err Memory) k after = CanCommit j cell.id step × (length j.history < j.limit) × (k ≡ j) × (after ≡ cell)

-- What declare_idle answers. true: the end was idle, and its mark is the history's length from now on; false: it was not, and nothing changed
abbrev pub Declares : JournalView → ℕ → Bool → JournalView → Type 0
Declares j e true k = IsIdle (network_of j.declared) (packets_of j.load) j.history e × (k ≡ with_marks j (slice_set j.marks e (Some (length j.history))))
Declares j e false k = (IsIdle (network_of j.declared) (packets_of j.load) j.history e → ⊥) × (k ≡ j)

-- the journal of no steps and no marks
abbrev pub IsNew : Declaration → List LoadEntry → ℕ → JournalView → Type 0
IsNew d load limit j = j ≡ record { name = j.name; declared = d; load = load; limit = limit; history = []; marks = replicate (network_of d).channels None }

-- the cell of a journal with this name in the empty state
abbrev pub new_cell : Declaration → TableId → CellId → CellView
new_cell d name id = record { name = name; id = id; ends = numbered (network_of d) (empty (network_of d)) id }

-- all of them: one for each node and each switch, in the order of their numbers
abbrev pub new_cells : Declaration → TableId → List CellView
new_cells d name = map (new_cell d name) (cells_of d)

-- the history is one of the load's, within the limit, and each mark is true
pub record IsTrueView (j : JournalView) : Type 0 where
  pub network : IsNetwork (network_of j.declared)
  pub state : State
  pub history : LeadsTo j state
  pub within : length j.history ≤ j.limit
  pub places : length j.marks ≡ (network_of j.declared).channels
  pub true_marks : (e k : ℕ) → slice_get j.marks e ≡ Some (Some k) → IsTrueMark (network_of j.declared) (packets_of j.load) j.history e k

-- and the journal's seat knows what all cells know
pub record IsKept (j : JournalView) (me : Me SeatChange View) : Type 0 where
  pub true_view : IsTrueView j
  pub channels : (network_of j.declared).channels ≡ 2 * length j.declared.links
  pub seat : me ≡ (knower (all_known j.declared true_view.state), [])
