use Rattle.std.proofs.Common.{◌≡◌, Err, rules, subst, sym}
use Rattle.sw_cell.proofs.Cells.{has_node, has_switch, refused_here}
use Rattle.sw_cell.specs.Answers.{AnswersAt}
use Rattle.sw_cell.specs.CellParts.{IsCellState}
use Rattle.sw_machine.specs.Model.{network_of}
use Rattle.sw_machine.specs.StepValues.{machine_step}
use Rattle.sw_cell.proofs.step.step_cell.Goals as goal

pub returns-in_err-cell_of-clause-answers : goal.returns-in_err-cell_of-clause-answers
returns-in_err-cell_of-clause-answers g c =
    let d = c.args.network.now in
    let state = IsCellState d c.args.at c.args.cell.now c.args.wires.now in
    let same : c.from_residual.result ≡ Err c.in_err-cell_of.field-0.0 = search rules in
    subst (λ r. AnswersAt (network_of d) c.args.at state (machine_step c.args.step.now) r state) (sym same)
    (refused_here d c.args.at state state (machine_step c.args.step.now) c.in_err-cell_of.field-0.0 (c.in_err-cell_of.ensures))

pub step_node-requires-clause-reached : goal.step_node-requires-clause-reached
step_node-requires-clause-reached g c = has_node c.args.network.now c.args.at c.args.cell.now c.args.wires.now c.in-Node.n c.in-Node-cell.node c.in-Node.is c.in-Node-cell.is c.requires.reached

pub step_switch-requires-clause-reached : goal.step_switch-requires-clause-reached
step_switch-requires-clause-reached g c = has_switch c.args.network.now c.args.at c.args.cell.now c.args.wires.now c.in-Switch.w c.in-Switch-cell-2.switch c.in-Switch.is c.in-Switch-cell-2.is c.requires.reached
