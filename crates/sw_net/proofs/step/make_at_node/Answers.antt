use Rattle.std.proofs.Common.{Err, rules, subst, sym, ◌≡◌}
use Rattle.std.specs.Prelude.{OnErr}
use Rattle.sw_cell.specs.Answers.{Answers}
use Rattle.sw_cell.specs.Parts.{IsNodeState}
use Rattle.sw_cell.specs.declared.fault.NetFault.TheVariants.{Memory}
use Rattle.sw_machine.specs.Model.{network_of}
use Rattle.sw_machine.specs.StepValues.{machine_step}
use Rattle.sw_net.proofs.Steps.{node_done, node_done_between, node_done_cell}
use Rattle.sw_net.proofs.step.make_at_node.Goals as goal

pub returns-clause-answers : goal.returns-clause-answers
returns-clause-answers c =
    let d = c.args.network.now in
    let net = network_of d in
    let step = machine_step c.args.step.now in
    subst (λ r. Answers net (IsNodeState net c.args.n c.args.cell.now c.args.wires.now) step r (IsNodeState net c.args.n c.step_node.new.cell c.step_node.new.wires)) (sym c.made_or_not.ensures)
    (node_done d c.args.n c.args.cell.now c.args.wires.now step c.step_node.new.cell c.step_node.new.wires c.in_ok-step_node.field-0 c.requires.at.named c.in_ok-step_node.ensures.made)

pub returns-clause-refused_cell : goal.returns-clause-refused_cell
returns-clause-refused_cell c =
    subst (λ r. OnErr r (c.step_node.new.cell ≡ c.args.cell.now)) (sym c.made_or_not.ensures)
    (node_done_cell c.args.network.now c.args.n c.args.cell.now c.args.wires.now (machine_step c.args.step.now) c.step_node.new.cell c.step_node.new.wires c.in_ok-step_node.field-0 c.in_ok-step_node.ensures.made)

pub returns-clause-refused_wires : goal.returns-clause-refused_wires
returns-clause-refused_wires c =
    subst (λ r. OnErr r (c.step_node.new.wires ≡ c.args.wires.now)) (sym c.made_or_not.ensures)
    (node_done_between c.args.network.now c.args.n c.args.cell.now c.args.wires.now (machine_step c.args.step.now) c.step_node.new.cell c.step_node.new.wires c.in_ok-step_node.field-0 c.in_ok-step_node.ensures.made)

pub returns-in_err-step_node-clause-answers : goal.returns-in_err-step_node-clause-answers
returns-in_err-step_node-clause-answers c =
    let net = network_of c.args.network.now in
    let same : c.from_residual.result ≡ Err Memory = search rules in
    subst (λ r. Answers net (IsNodeState net c.args.n c.args.cell.now c.args.wires.now) (machine_step c.args.step.now) r (IsNodeState net c.args.n c.step_node.new.cell c.step_node.new.wires)) (sym same)
    (c.in_err-step_node.ensures.stores, c.in_err-step_node.ensures.possible)
