-- At which cell of a declared network a step is done.
use Rattle.std.specs.Prelude.{Err, Ok, Result, length, ◌<◌, ◌≡◌}
use Rattle.sw_cell.specs.declared.cell.CellId.{CellId}
use Rattle.sw_cell.specs.declared.cell.CellId.TheVariants.{Node, Switch}
use Rattle.sw_cell.specs.declared.fault.NetFault.{NetFault}
use Rattle.sw_cell.specs.declared.fault.NetFault.TheVariants.{Memory, NotEnabled, NotInFlow}
use Rattle.sw_machine.specs.Network.{AtNode, AtSwitch, Cell, IsDeclared, Network}
use Rattle.sw_machine.specs.Parts.{cell_of}
use Rattle.sw_machine.specs.State.{State}
use Rattle.sw_machine.specs.Steps.{Accept, Arrive, Begin, Drop, Emit, Fct, FctIn, Forward, Grant, IsPossible, Reply, Spill, Step}
use Rattle.sw_machine.specs.Model.{network_of}
use Rattle.sw_config.specs.Entries.{Declaration}

abbrev pub machine_cell : CellId → Cell
machine_cell (Node n) = AtNode n
machine_cell (Switch w) = AtSwitch w

-- the network has such a cell
abbrev pub IsIn : Declaration → CellId → Type 0
IsIn d (Node n) = n < length d.nodes
IsIn d (Switch w) = w < length d.switches

-- the network has what the step names: a channel, a node, or a flow that declares the packet
abbrev pub HasNamed : Network → Step → Type 0
HasNamed net (Fct c) = c < net.channels
HasNamed net (FctIn c) = c < net.channels
HasNamed net (Arrive c) = c < net.channels
HasNamed net (Grant d c) = c < net.channels
HasNamed net (Drop c) = c < net.channels
HasNamed net (Forward c) = c < net.channels
HasNamed net (Spill c) = c < net.channels
HasNamed net (Begin flow cargo end) = IsDeclared net flow cargo
HasNamed net (Emit n) = n < net.nodes
HasNamed net (Accept n) = n < net.nodes
HasNamed net (Reply n) = n < net.nodes

-- the step begins a packet that no flow declares
abbrev pub IsUndeclared : Network → Step → Type 0
IsUndeclared net (Begin flow cargo end) = IsDeclared net flow cargo → ⊥
IsUndeclared net step = ⊥

-- the step names what there is, and is done at that cell
pub record IsAt (d : Declaration) (step : Step) (at : CellId) : Type 0 where
  pub named : HasNamed (network_of d) step
  pub cell : cell_of (network_of d) step ≡ machine_cell at
  pub inside : IsIn d at

-- the cell at which the step is done. NotInFlow: it begins an undeclared packet; NotEnabled: it does not, and is possible in no state
abbrev pub IsDoneAt : Declaration → Step → Result CellId NetFault → Type 0
IsDoneAt d step (Ok at) = IsAt d step at
IsDoneAt d step (Err NotInFlow) = IsUndeclared (network_of d) step
IsDoneAt d step (Err NotEnabled) = (IsUndeclared (network_of d) step → ⊥) × ((s : State) → IsPossible (network_of d) s step → ⊥)
IsDoneAt d step (Err Memory) = ⊥
