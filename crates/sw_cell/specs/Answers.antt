-- What a call answers that makes one of the machine's steps.
use Rattle.std.specs.Prelude.{Bool, Err, Ok, Result, false, true, ◌≡◌}
use Rattle.sw_cell.specs.Places.{IsUndeclared, machine_cell}
use Rattle.sw_cell.specs.declared.cell.CellId.{CellId}
use Rattle.sw_cell.specs.declared.fault.NetFault.{NetFault}
use Rattle.sw_cell.specs.declared.fault.NetFault.TheVariants.{Memory, NotEnabled, NotInFlow}
use Rattle.sw_machine.specs.Network.{Network}
use Rattle.sw_machine.specs.Parts.{cell_of}
use Rattle.sw_machine.specs.State.{State}
use Rattle.sw_machine.specs.Steps.{Accept, Begin, IsPossible, Leads, Step}

-- the step stores something: a packet to be sent, or one that came, and its reply
abbrev pub Stores : Step → Type 0
Stores (Begin flow cargo end) = Unit {0}
Stores (Accept n) = Unit {0}
Stores step = ⊥

-- A call is to make a step. `before` holds of each state that it may find, and `after` of each that it may leave.
-- Ok: from each state the step leads to one, and the packet that it begins, if it begins one, is declared;
-- NotInFlow: it begins an undeclared packet; NotEnabled: it does not, and is possible in no such state;
-- Memory: it is possible in each, and stores something
abbrev pub Answers : Network → (State → Type 0) → Step → Result Unit NetFault → (State → Type 0) → Type 0
Answers net before step (Ok done) after = (s : State) → before s → (t : State) × Leads net s step t × after t
Answers net before step (Err NotInFlow) after = IsUndeclared net step
Answers net before step (Err NotEnabled) after = (IsUndeclared net step → ⊥) × ((s : State) → before s → IsPossible net s step → ⊥)
Answers net before step (Err Memory) after = Stores step × ((s : State) → before s → IsPossible net s step)

-- the same at one cell alone: a step of another cell is not enabled
abbrev pub AnswersAt : Network → CellId → (State → Type 0) → Step → Result Unit NetFault → (State → Type 0) → Type 0
AnswersAt net at before step (Ok done) after = (cell_of net step ≡ machine_cell at) × Answers net before step (Ok done) after
AnswersAt net at before step (Err NotInFlow) after = IsUndeclared net step
AnswersAt net at before step (Err NotEnabled) after = (IsUndeclared net step → ⊥) × (cell_of net step ≡ machine_cell at → (s : State) → before s → IsPossible net s step → ⊥)
AnswersAt net at before step (Err Memory) after = (cell_of net step ≡ machine_cell at) × Answers net before step (Err Memory) after

-- the answer where a step was made, or was not possible
abbrev pub done : Bool → Result Unit NetFault
done true = Ok tt
done false = Err NotEnabled
