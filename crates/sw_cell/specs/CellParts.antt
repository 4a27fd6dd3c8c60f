-- The part of the machine's state that a cell has.
use Rattle.std.specs.Prelude.{ℕ, List, [], Option}
use Rattle.sw_cell.specs.declared.cell.CellId.{CellId}
use Rattle.sw_cell.specs.declared.cell.CellId.TheVariants as place
use Rattle.sw_cell.specs.declared.cell.CellState.{CellState}
use Rattle.sw_cell.specs.declared.cell.CellState.TheVariants.{Node, Switch}
use Rattle.sw_cell.specs.Parts.{IsNodeFor, IsNodeState}
use Rattle.sw_cell.specs.SwitchParts.{IsSwitchFor, IsSwitchState}
use Rattle.sw_machine.specs.State.{State}
use Rattle.sw_machine.specs.Model.{network_of}
use Rattle.sw_config.specs.Entries.{Declaration}
use Rattle.sw_route.specs.declared.look.Look.{Look}
use Rattle.sw_link.specs.Between.{Between}

-- the cell was made for that node or switch of a network
abbrev pub IsCellFor : {R A : Type 0} → (R → ℕ → Look) → (A → ℕ) → Declaration → CellId → CellState R A → Type 0
IsCellFor answer ports d (place.Node n) (Node node) = IsNodeFor d n node
IsCellFor answer ports d (place.Node n) (Switch cell) = ⊥
IsCellFor answer ports d (place.Switch w) (Node node) = ⊥
IsCellFor answer ports d (place.Switch w) (Switch cell) = IsSwitchFor answer ports d w cell

-- the cell, and what lies between the cells, are those of a reached state
abbrev pub IsCellState : {R A : Type 0} → Declaration → CellId → CellState R A → Between → State → Type 0
IsCellState d (place.Node n) (Node node) b s = IsNodeState (network_of d) n node b s
IsCellState d (place.Node n) (Switch cell) b s = ⊥
IsCellState d (place.Switch w) (Node node) b s = ⊥
IsCellState d (place.Switch w) (Switch cell) b s = IsSwitchState d w cell b s

-- there is a reached state whose parts these are
abbrev pub HasCellState : {R A : Type 0} → Declaration → CellId → CellState R A → Between → Type 0
HasCellState d at cell b = ∥ ((s : State) × IsCellState d at cell b s) ∥₁

-- the arbiters of a switch's outputs; a node has none
abbrev pub arbiters_of : {R A : Type 0} → CellState R A → List (Option A)
arbiters_of (Node node) = []
arbiters_of (Switch cell) = cell.arbiters
