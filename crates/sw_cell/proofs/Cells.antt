-- A cell as the node or switch that it is.
use Rattle.std.proofs.Common.{ℕ, ◌≡◌, subst}
use Rattle.std.specs.Prelude.{Err}
use Rattle.sw_cell.specs.Answers.{AnswersAt}
use Rattle.sw_cell.specs.CellParts.{HasCellState}
use Rattle.sw_cell.specs.Places.{IsDoneAt}
use Rattle.sw_cell.specs.declared.cell.CellId.{CellId}
use Rattle.sw_cell.specs.declared.cell.CellId.TheVariants as place
use Rattle.sw_cell.specs.declared.cell.CellState.{CellState}
use Rattle.sw_cell.specs.declared.cell.CellState.TheVariants as state
use Rattle.sw_cell.specs.declared.fault.NetFault.{NetFault}
use Rattle.sw_cell.specs.declared.fault.NetFault.TheVariants.{Memory, NotEnabled, NotInFlow}
use Rattle.sw_cell.specs.Makes.{HasNodeState}
use Rattle.sw_cell.specs.SwitchParts.{HasSwitchState}
use Rattle.sw_machine.specs.State.{State}
use Rattle.sw_machine.specs.Steps.{Step}
use Rattle.sw_machine.specs.Model.{network_of}
use Rattle.sw_config.specs.Entries.{Declaration}
use Rattle.sw_node.specs.Node.{Node}
use Rattle.sw_switch.specs.Cell.{Cell}
use Rattle.sw_link.specs.Between.{Between}

module _ {R A : Type 0} (d : Declaration) (at : CellId) (cell : CellState R A) (b : Between) where
  pub has_node : (n : ℕ) (node : Node) → at ≡ place.Node n → cell ≡ state.Node node → HasCellState d at cell b → HasNodeState (network_of d) n node b
  has_node n node here is h = subst (λ k. HasCellState d (place.Node n) k b) is (subst (λ k. HasCellState d k cell b) here h)

  pub has_switch : (w : ℕ) (switch : Cell R A) → at ≡ place.Switch w → cell ≡ state.Switch switch → HasCellState d at cell b → HasSwitchState d w switch b
  has_switch w switch here is h = subst (λ k. HasCellState d (place.Switch w) k b) is (subst (λ k. HasCellState d k cell b) here h)

-- a step that is nowhere possible is not possible here
pub refused_here : (d : Declaration) (at : CellId) (before after : State → Type 0) (step : Step) (fault : NetFault) → IsDoneAt d step (Err fault) → AnswersAt (network_of d) at before step (Err fault) after
refused_here d at before after step NotInFlow h = h
refused_here d at before after step NotEnabled h = (h.0, λ here s is p. h.1 s p)
refused_here d at before after step Memory h = absurd h
