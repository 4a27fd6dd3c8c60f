use Rattle.std.proofs.Common.{Err, ap, arith, set, subst, sym, ◌∙◌, ◌≡◌}
use Rattle.std.specs.Prelude.{OnErr}
use Rattle.sw_cell.specs.Answers.{done}
use Rattle.sw_cell.specs.Places.{IsAt, IsDoneAt}
use Rattle.sw_cell.specs.declared.cell.CellId.TheVariants as place
use Rattle.sw_machine.specs.StepValues.{machine_step}
use Rattle.sw_net.proofs.Making.{same_arbiters}
use Rattle.sw_net.proofs.Steps as steps
use Rattle.sw_net.proofs.net.Net.step.Goals as goal
use Rattle.sw_net.specs.Net.{NetAnswers, NetView, arbiters_of, net_of}
use Rattle.sw_topo.proofs.Lists.{on_err_then}

pub returns-in-Err-clause-answers : goal.returns-in-Err-clause-answers
returns-in-Err-clause-answers g c =
    let step = machine_step c.args.step.now in
    let h = subst (λ (k : NetView g.row.R.Denot g.row.A.Denot). IsDoneAt k.declared step (Err c.in-Err.fault)) c.self.view_is c.in-Err.ensures in
    steps.nowhere c.args.self.now c.args.self.now step c.in-Err.fault h

pub index_mut-cell-requires : goal.index_mut-cell-requires
index_mut-cell-requires g c = let within = steps.node_within g.R.Routing.answer g.A.Arbiter.ports (net_of c.self.inside.network.now c.self.inside.nodes.items c.self.inside.switches.items c.self.inside.wires) c.args.self.now c.self.view_is c.self.invariant c.in-Ok-Node.n (subst (λ (k : NetView g.row.R.Denot g.row.A.Denot). IsAt k.declared (machine_step c.args.step.now) (place.Node c.in-Ok-Node.n)) c.self.view_is (subst (IsAt c.self.inside.network.now (machine_step c.args.step.now)) c.in-Ok-Node.field-0-is c.in-Ok-Node.ensures)).inside in omega (arith, c.self.inside.nodes.ok.0)

pub make_at_node-requires-clause-cell : goal.make_at_node-requires-clause-cell
make_at_node-requires-clause-cell g c =
    let at = steps.node_found g.R.Routing.answer g.A.Arbiter.ports (net_of c.self.inside.network.now c.self.inside.nodes.items c.self.inside.switches.items c.self.inside.wires) c.args.self.now c.self.view_is c.self.invariant (machine_step c.args.step.now) c.in-Ok-Node.n c.index_mut-cell.result.now (subst (λ (k : NetView g.row.R.Denot g.row.A.Denot). IsAt k.declared (machine_step c.args.step.now) (place.Node c.in-Ok-Node.n)) c.self.view_is (subst (IsAt c.self.inside.network.now (machine_step c.args.step.now)) c.in-Ok-Node.field-0-is c.in-Ok-Node.ensures)) c.index_mut-cell.ensures.value in
    c.self.invariant.nodes c.in-Ok-Node.n c.index_mut-cell.result.now at

pub make_at_node-requires-clause-reached : goal.make_at_node-requires-clause-reached
make_at_node-requires-clause-reached g c =
    let at = steps.node_found g.R.Routing.answer g.A.Arbiter.ports (net_of c.self.inside.network.now c.self.inside.nodes.items c.self.inside.switches.items c.self.inside.wires) c.args.self.now c.self.view_is c.self.invariant (machine_step c.args.step.now) c.in-Ok-Node.n c.index_mut-cell.result.now (subst (λ (k : NetView g.row.R.Denot g.row.A.Denot). IsAt k.declared (machine_step c.args.step.now) (place.Node c.in-Ok-Node.n)) c.self.view_is (subst (IsAt c.self.inside.network.now (machine_step c.args.step.now)) c.in-Ok-Node.field-0-is c.in-Ok-Node.ensures)) c.index_mut-cell.ensures.value in
    steps.has_node g.R.Routing.answer g.A.Arbiter.ports c.self.inside.network.now c.self.inside.nodes.items c.self.inside.switches.items c.self.inside.wires c.self.invariant (machine_step c.args.step.now) c.in-Ok-Node.n c.index_mut-cell.result.now at

pub make_at_node-requires-clause-at : goal.make_at_node-requires-clause-at
make_at_node-requires-clause-at g c = steps.node_is_at g.R.Routing.answer g.A.Arbiter.ports (net_of c.self.inside.network.now c.self.inside.nodes.items c.self.inside.switches.items c.self.inside.wires) c.args.self.now c.self.view_is c.self.invariant (machine_step c.args.step.now) c.in-Ok-Node.n (subst (λ (k : NetView g.row.R.Denot g.row.A.Denot). IsAt k.declared (machine_step c.args.step.now) (place.Node c.in-Ok-Node.n)) c.self.view_is (subst (IsAt c.self.inside.network.now (machine_step c.args.step.now)) c.in-Ok-Node.field-0-is c.in-Ok-Node.ensures))

pub invariant_of-self : goal.invariant_of-self
invariant_of-self g c =
    let at = steps.node_found g.R.Routing.answer g.A.Arbiter.ports (net_of c.self.inside.network.now c.self.inside.nodes.items c.self.inside.switches.items c.self.inside.wires) c.args.self.now c.self.view_is c.self.invariant (machine_step c.args.step.now) c.in-Ok-Node.n c.index_mut-cell.result.now (subst (λ (k : NetView g.row.R.Denot g.row.A.Denot). IsAt k.declared (machine_step c.args.step.now) (place.Node c.in-Ok-Node.n)) c.self.view_is (subst (IsAt c.self.inside.network.now (machine_step c.args.step.now)) c.in-Ok-Node.field-0-is c.in-Ok-Node.ensures)) c.index_mut-cell.ensures.value in
    let here = steps.node_is_at g.R.Routing.answer g.A.Arbiter.ports (net_of c.self.inside.network.now c.self.inside.nodes.items c.self.inside.switches.items c.self.inside.wires) c.args.self.now c.self.view_is c.self.invariant (machine_step c.args.step.now) c.in-Ok-Node.n (subst (λ (k : NetView g.row.R.Denot g.row.A.Denot). IsAt k.declared (machine_step c.args.step.now) (place.Node c.in-Ok-Node.n)) c.self.view_is (subst (IsAt c.self.inside.network.now (machine_step c.args.step.now)) c.in-Ok-Node.field-0-is c.in-Ok-Node.ensures)) in
    steps.node_net g.R.Routing.answer g.A.Arbiter.ports c.self.inside.network.now c.self.inside.nodes.items c.self.inside.switches.items c.self.inside.wires c.self.invariant (machine_step c.args.step.now) c.in-Ok-Node.n c.index_mut-cell.result.now at here.cell c.make_at_node.result c.make_at_node.new.cell c.make_at_node.new.wires c.make_at_node.ensures.cell c.make_at_node.ensures.answers c.make_at_node.ensures.refused_cell c.make_at_node.ensures.refused_wires

pub returns-in-Ok-Node-clause-network : goal.returns-in-Ok-Node-clause-network
returns-in-Ok-Node-clause-network g c = ap (λ (k : NetView g.row.R.Denot g.row.A.Denot). k.declared) c.self.view_is

pub returns-in-Ok-Node-clause-answers : goal.returns-in-Ok-Node-clause-answers
returns-in-Ok-Node-clause-answers g c =
    let at = steps.node_found g.R.Routing.answer g.A.Arbiter.ports (net_of c.self.inside.network.now c.self.inside.nodes.items c.self.inside.switches.items c.self.inside.wires) c.args.self.now c.self.view_is c.self.invariant (machine_step c.args.step.now) c.in-Ok-Node.n c.index_mut-cell.result.now (subst (λ (k : NetView g.row.R.Denot g.row.A.Denot). IsAt k.declared (machine_step c.args.step.now) (place.Node c.in-Ok-Node.n)) c.self.view_is (subst (IsAt c.self.inside.network.now (machine_step c.args.step.now)) c.in-Ok-Node.field-0-is c.in-Ok-Node.ensures)) c.index_mut-cell.ensures.value in
    let here = steps.node_is_at g.R.Routing.answer g.A.Arbiter.ports (net_of c.self.inside.network.now c.self.inside.nodes.items c.self.inside.switches.items c.self.inside.wires) c.args.self.now c.self.view_is c.self.invariant (machine_step c.args.step.now) c.in-Ok-Node.n (subst (λ (k : NetView g.row.R.Denot g.row.A.Denot). IsAt k.declared (machine_step c.args.step.now) (place.Node c.in-Ok-Node.n)) c.self.view_is (subst (IsAt c.self.inside.network.now (machine_step c.args.step.now)) c.in-Ok-Node.field-0-is c.in-Ok-Node.ensures)) in
    subst (λ k. NetAnswers k (machine_step c.args.step.now) c.make_at_node.result (net_of c.self.inside.network.now (set c.self.inside.nodes.items c.in-Ok-Node.n c.make_at_node.new.cell) c.self.inside.switches.items c.make_at_node.new.wires)) c.self.view_is
    (steps.node_answers g.R.Routing.answer g.A.Arbiter.ports c.self.inside.network.now c.self.inside.nodes.items c.self.inside.switches.items c.self.inside.wires c.self.invariant (machine_step c.args.step.now) c.in-Ok-Node.n c.index_mut-cell.result.now at here.cell c.make_at_node.result c.make_at_node.new.cell c.make_at_node.new.wires c.make_at_node.ensures.answers)

pub returns-in-Ok-Node-clause-arbiters : goal.returns-in-Ok-Node-clause-arbiters
returns-in-Ok-Node-clause-arbiters g c = ap (λ (k : NetView g.row.R.Denot g.row.A.Denot). arbiters_of k.switches) c.self.view_is

pub returns-in-Ok-Node-clause-refused : goal.returns-in-Ok-Node-clause-refused
returns-in-Ok-Node-clause-refused g c =
    let at = steps.node_found g.R.Routing.answer g.A.Arbiter.ports (net_of c.self.inside.network.now c.self.inside.nodes.items c.self.inside.switches.items c.self.inside.wires) c.args.self.now c.self.view_is c.self.invariant (machine_step c.args.step.now) c.in-Ok-Node.n c.index_mut-cell.result.now (subst (λ (k : NetView g.row.R.Denot g.row.A.Denot). IsAt k.declared (machine_step c.args.step.now) (place.Node c.in-Ok-Node.n)) c.self.view_is (subst (IsAt c.self.inside.network.now (machine_step c.args.step.now)) c.in-Ok-Node.field-0-is c.in-Ok-Node.ensures)) c.index_mut-cell.ensures.value in
    on_err_then c.make_at_node.result (λ same. same ∙ c.self.view_is)
    (steps.node_refused g.R.Routing.answer g.A.Arbiter.ports c.self.inside.network.now c.self.inside.nodes.items c.self.inside.switches.items c.self.inside.wires c.self.invariant (machine_step c.args.step.now) c.in-Ok-Node.n c.index_mut-cell.result.now at c.make_at_node.result c.make_at_node.new.cell c.make_at_node.new.wires c.make_at_node.ensures.refused_cell c.make_at_node.ensures.refused_wires)

pub step_switch-requires-clause-cell : goal.step_switch-requires-clause-cell
step_switch-requires-clause-cell g c = c.self.invariant.switches c.in-Ok-Switch.w c.index_mut-cell-in-Ok-Switch.result.now (steps.switch_found g.R.Routing.answer g.A.Arbiter.ports (net_of c.self.inside.network.now c.self.inside.nodes.items c.self.inside.switches.items c.self.inside.wires) c.args.self.now c.self.view_is c.self.invariant (machine_step c.args.step.now) c.in-Ok-Switch.w c.index_mut-cell-in-Ok-Switch.result.now (subst (λ (k : NetView g.row.R.Denot g.row.A.Denot). IsAt k.declared (machine_step c.args.step.now) (place.Switch c.in-Ok-Switch.w)) c.self.view_is (subst (IsAt c.self.inside.network.now (machine_step c.args.step.now)) c.in-Ok-Switch.field-0-is c.in-Ok-Switch.ensures)) c.index_mut-cell-in-Ok-Switch.ensures.value)

pub step_switch-requires-clause-reached : goal.step_switch-requires-clause-reached
step_switch-requires-clause-reached g c = steps.has_switch g.R.Routing.answer g.A.Arbiter.ports c.self.inside.network.now c.self.inside.nodes.items c.self.inside.switches.items c.self.inside.wires c.self.invariant (machine_step c.args.step.now) c.in-Ok-Switch.w c.index_mut-cell-in-Ok-Switch.result.now (steps.switch_found g.R.Routing.answer g.A.Arbiter.ports (net_of c.self.inside.network.now c.self.inside.nodes.items c.self.inside.switches.items c.self.inside.wires) c.args.self.now c.self.view_is c.self.invariant (machine_step c.args.step.now) c.in-Ok-Switch.w c.index_mut-cell-in-Ok-Switch.result.now (subst (λ (k : NetView g.row.R.Denot g.row.A.Denot). IsAt k.declared (machine_step c.args.step.now) (place.Switch c.in-Ok-Switch.w)) c.self.view_is (subst (IsAt c.self.inside.network.now (machine_step c.args.step.now)) c.in-Ok-Switch.field-0-is c.in-Ok-Switch.ensures)) c.index_mut-cell-in-Ok-Switch.ensures.value)

pub invariant_of-self-in-Ok-Switch : goal.invariant_of-self-in-Ok-Switch
invariant_of-self-in-Ok-Switch g c =
    let at = steps.switch_found g.R.Routing.answer g.A.Arbiter.ports (net_of c.self.inside.network.now c.self.inside.nodes.items c.self.inside.switches.items c.self.inside.wires) c.args.self.now c.self.view_is c.self.invariant (machine_step c.args.step.now) c.in-Ok-Switch.w c.index_mut-cell-in-Ok-Switch.result.now (subst (λ (k : NetView g.row.R.Denot g.row.A.Denot). IsAt k.declared (machine_step c.args.step.now) (place.Switch c.in-Ok-Switch.w)) c.self.view_is (subst (IsAt c.self.inside.network.now (machine_step c.args.step.now)) c.in-Ok-Switch.field-0-is c.in-Ok-Switch.ensures)) c.index_mut-cell-in-Ok-Switch.ensures.value in
    let here = steps.switch_is_at g.R.Routing.answer g.A.Arbiter.ports (net_of c.self.inside.network.now c.self.inside.nodes.items c.self.inside.switches.items c.self.inside.wires) c.args.self.now c.self.view_is c.self.invariant (machine_step c.args.step.now) c.in-Ok-Switch.w (subst (λ (k : NetView g.row.R.Denot g.row.A.Denot). IsAt k.declared (machine_step c.args.step.now) (place.Switch c.in-Ok-Switch.w)) c.self.view_is (subst (IsAt c.self.inside.network.now (machine_step c.args.step.now)) c.in-Ok-Switch.field-0-is c.in-Ok-Switch.ensures)) in
    steps.switch_net g.R.Routing.answer g.A.Arbiter.ports c.self.inside.network.now c.self.inside.nodes.items c.self.inside.switches.items c.self.inside.wires c.self.invariant (machine_step c.args.step.now) c.in-Ok-Switch.w c.index_mut-cell-in-Ok-Switch.result.now at here.cell c.step_switch.result c.step_switch.new.cell c.step_switch.new.wires c.step_switch.ensures.cell c.step_switch.ensures.made

pub returns-in-Ok-Switch-clause-answers : goal.returns-in-Ok-Switch-clause-answers
returns-in-Ok-Switch-clause-answers g c =
    let at = steps.switch_found g.R.Routing.answer g.A.Arbiter.ports (net_of c.self.inside.network.now c.self.inside.nodes.items c.self.inside.switches.items c.self.inside.wires) c.args.self.now c.self.view_is c.self.invariant (machine_step c.args.step.now) c.in-Ok-Switch.w c.index_mut-cell-in-Ok-Switch.result.now (subst (λ (k : NetView g.row.R.Denot g.row.A.Denot). IsAt k.declared (machine_step c.args.step.now) (place.Switch c.in-Ok-Switch.w)) c.self.view_is (subst (IsAt c.self.inside.network.now (machine_step c.args.step.now)) c.in-Ok-Switch.field-0-is c.in-Ok-Switch.ensures)) c.index_mut-cell-in-Ok-Switch.ensures.value in
    let here = steps.switch_is_at g.R.Routing.answer g.A.Arbiter.ports (net_of c.self.inside.network.now c.self.inside.nodes.items c.self.inside.switches.items c.self.inside.wires) c.args.self.now c.self.view_is c.self.invariant (machine_step c.args.step.now) c.in-Ok-Switch.w (subst (λ (k : NetView g.row.R.Denot g.row.A.Denot). IsAt k.declared (machine_step c.args.step.now) (place.Switch c.in-Ok-Switch.w)) c.self.view_is (subst (IsAt c.self.inside.network.now (machine_step c.args.step.now)) c.in-Ok-Switch.field-0-is c.in-Ok-Switch.ensures)) in
    subst (λ k. NetAnswers k (machine_step c.args.step.now) c.made_or_not.result (net_of c.self.inside.network.now c.self.inside.nodes.items (set c.self.inside.switches.items c.in-Ok-Switch.w c.step_switch.new.cell) c.step_switch.new.wires)) c.self.view_is
    (subst (λ r. NetAnswers (net_of c.self.inside.network.now c.self.inside.nodes.items c.self.inside.switches.items c.self.inside.wires) (machine_step c.args.step.now) r (net_of c.self.inside.network.now c.self.inside.nodes.items (set c.self.inside.switches.items c.in-Ok-Switch.w c.step_switch.new.cell) c.step_switch.new.wires)) (sym c.made_or_not.ensures)
    (steps.switch_answers g.R.Routing.answer g.A.Arbiter.ports c.self.inside.network.now c.self.inside.nodes.items c.self.inside.switches.items c.self.inside.wires c.self.invariant (machine_step c.args.step.now) c.in-Ok-Switch.w c.index_mut-cell-in-Ok-Switch.result.now at here.cell c.step_switch.result c.step_switch.new.cell c.step_switch.new.wires here.named c.step_switch.ensures.made))

pub returns-in-Ok-Switch-clause-arbiters : goal.returns-in-Ok-Switch-clause-arbiters
returns-in-Ok-Switch-clause-arbiters g c =
    let at = steps.switch_found g.R.Routing.answer g.A.Arbiter.ports (net_of c.self.inside.network.now c.self.inside.nodes.items c.self.inside.switches.items c.self.inside.wires) c.args.self.now c.self.view_is c.self.invariant (machine_step c.args.step.now) c.in-Ok-Switch.w c.index_mut-cell-in-Ok-Switch.result.now (subst (λ (k : NetView g.row.R.Denot g.row.A.Denot). IsAt k.declared (machine_step c.args.step.now) (place.Switch c.in-Ok-Switch.w)) c.self.view_is (subst (IsAt c.self.inside.network.now (machine_step c.args.step.now)) c.in-Ok-Switch.field-0-is c.in-Ok-Switch.ensures)) c.index_mut-cell-in-Ok-Switch.ensures.value in
    same_arbiters c.self.inside.switches.items c.in-Ok-Switch.w c.index_mut-cell-in-Ok-Switch.result.now c.step_switch.new.cell at c.step_switch.ensures.arbiters
    ∙ ap (λ (k : NetView g.row.R.Denot g.row.A.Denot). arbiters_of k.switches) c.self.view_is

pub index_mut-cell-requires-in-Ok-Switch : goal.index_mut-cell-requires-in-Ok-Switch
index_mut-cell-requires-in-Ok-Switch g c = let within = steps.switch_within g.R.Routing.answer g.A.Arbiter.ports (net_of c.self.inside.network.now c.self.inside.nodes.items c.self.inside.switches.items c.self.inside.wires) c.args.self.now c.self.view_is c.self.invariant c.in-Ok-Switch.w (subst (λ (k : NetView g.row.R.Denot g.row.A.Denot). IsAt k.declared (machine_step c.args.step.now) (place.Switch c.in-Ok-Switch.w)) c.self.view_is (subst (IsAt c.self.inside.network.now (machine_step c.args.step.now)) c.in-Ok-Switch.field-0-is c.in-Ok-Switch.ensures)).inside in omega (arith, c.self.inside.switches.ok.0)

pub step_switch-requires-clause-at : goal.step_switch-requires-clause-at
step_switch-requires-clause-at g c = (steps.switch_is_at g.R.Routing.answer g.A.Arbiter.ports (net_of c.self.inside.network.now c.self.inside.nodes.items c.self.inside.switches.items c.self.inside.wires) c.args.self.now c.self.view_is c.self.invariant (machine_step c.args.step.now) c.in-Ok-Switch.w (subst (λ (k : NetView g.row.R.Denot g.row.A.Denot). IsAt k.declared (machine_step c.args.step.now) (place.Switch c.in-Ok-Switch.w)) c.self.view_is (subst (IsAt c.self.inside.network.now (machine_step c.args.step.now)) c.in-Ok-Switch.field-0-is c.in-Ok-Switch.ensures))).cell

pub returns-in-Ok-Switch-clause-network : goal.returns-in-Ok-Switch-clause-network
returns-in-Ok-Switch-clause-network g c = ap (λ (k : NetView g.row.R.Denot g.row.A.Denot). k.declared) c.self.view_is

pub returns-in-Ok-Switch-clause-refused : goal.returns-in-Ok-Switch-clause-refused
returns-in-Ok-Switch-clause-refused g c =
    let at = steps.switch_found g.R.Routing.answer g.A.Arbiter.ports (net_of c.self.inside.network.now c.self.inside.nodes.items c.self.inside.switches.items c.self.inside.wires) c.args.self.now c.self.view_is c.self.invariant (machine_step c.args.step.now) c.in-Ok-Switch.w c.index_mut-cell-in-Ok-Switch.result.now (subst (λ (k : NetView g.row.R.Denot g.row.A.Denot). IsAt k.declared (machine_step c.args.step.now) (place.Switch c.in-Ok-Switch.w)) c.self.view_is (subst (IsAt c.self.inside.network.now (machine_step c.args.step.now)) c.in-Ok-Switch.field-0-is c.in-Ok-Switch.ensures)) c.index_mut-cell-in-Ok-Switch.ensures.value in
    let after = net_of c.self.inside.network.now c.self.inside.nodes.items (set c.self.inside.switches.items c.in-Ok-Switch.w c.step_switch.new.cell) c.step_switch.new.wires in
    subst (λ r. OnErr r (after ≡ c.args.self.now)) (sym c.made_or_not.ensures)
    (on_err_then (done c.step_switch.result) (λ same. same ∙ c.self.view_is) (steps.switch_refused g.R.Routing.answer g.A.Arbiter.ports c.self.inside.network.now c.self.inside.nodes.items c.self.inside.switches.items c.self.inside.wires c.self.invariant (machine_step c.args.step.now) c.in-Ok-Switch.w c.index_mut-cell-in-Ok-Switch.result.now at c.step_switch.result c.step_switch.new.cell c.step_switch.new.wires c.step_switch.ensures.made))
