use Rattle.std.proofs.Common.{None, Some, ap, length, subst, sym, ◌<◌, ◌≡◌}
use Rattle.std.specs.Prelude.{slice_get}
use Rattle.sw_cell.specs.Makes.{HasNodeState}
use Rattle.sw_cell.specs.Parts.{IsNodeFor}
use Rattle.sw_cell.specs.SwitchParts.{HasSwitchState, IsSwitchFor}
use Rattle.sw_config.specs.Entries.{Declaration}
use Rattle.sw_flow.specs.Places.{ends_of}
use Rattle.sw_machine.specs.Model.{network_of}
use Rattle.sw_machine.specs.Network.{AtSwitch}
use Rattle.sw_machine.specs.StepValues.{machine_move}
use Rattle.sw_machine.specs.Steps.{Emit}
use Rattle.sw_net.proofs.Making.{node_not_ready, node_ready, port_not_ready, port_ready}
use Rattle.sw_net.proofs.Steps.{has_node, has_switch}
use Rattle.sw_net.proofs.Told.{start_at_switch}
use Rattle.sw_net.proofs.net.Net.first_ready.Goals as goal
use Rattle.sw_net.specs.Making.{TellsReady}
use Rattle.sw_net.specs.Net.{NetView}
use Rattle.sw_topo.specs.Checked.{IsIn}

pub node-requires : goal.node-requires
node-requires g c = subst (IsIn (length c.args.self.now.declared.nodes) (length c.args.self.now.declared.switches)) c.in-Node.is c.requires.inside

pub possible_step-requires-clause-node : goal.possible_step-requires-clause-node
possible_step-requires-clause-node g c = subst (λ (d : Declaration). IsNodeFor d c.in-Node.n c.node.result.now) (sym c.network-network.ensures.network) (c.network-network.ensures.sound.nodes c.in-Node.n c.node.result.now c.node.ensures)

pub possible_step-requires-clause-reached : goal.possible_step-requires-clause-reached
possible_step-requires-clause-reached g c =
    let v = c.args.self.now in
    subst (λ (d : Declaration). HasNodeState (network_of d) c.in-Node.n c.node.result.now c.self.inside.wires) (sym c.network-network.ensures.network)
    (subst (λ (k : NetView g.row.R.Denot g.row.A.Denot). HasNodeState (network_of v.declared) c.in-Node.n c.node.result.now k.between) (sym c.self.view_is)
    (has_node g.R.Routing.answer g.A.Arbiter.ports v.declared v.nodes v.switches v.between c.network-network.ensures.sound (Emit 0) c.in-Node.n c.node.result.now c.node.ensures))

pub node_step-requires : goal.node_step-requires
node_step-requires g c =
    let inside = subst (IsIn (length c.args.self.now.declared.nodes) (length c.args.self.now.declared.switches)) c.in-Node.is c.requires.inside in
    subst (λ (d : Declaration). c.in-Node.n < length d.nodes) (sym c.network-network.ensures.network) inside

pub returns-in-Some : goal.returns-in-Some
returns-in-Some g c =
    let v = c.args.self.now in
    let inside = subst (IsIn (length v.declared.nodes) (length v.declared.switches)) c.in-Node.is c.requires.inside in
    node_ready v c.network-network.ensures.sound.valid c.args.end c.in-Node.n (subst (λ p. slice_get (ends_of v.declared) c.args.end ≡ Some p) c.in-Node.is c.requires.starts) c.requires.within c.node.result.now c.node.ensures inside
    c.network-network.result.now c.network-network.ensures.network c.self.inside.wires (ap (λ (k : NetView g.row.R.Denot g.row.A.Denot). k.between) c.self.view_is)
    c.in-Some.first (machine_move c.node_step.result) c.in-Some.ensures c.node_step.ensures

pub returns-in-None : goal.returns-in-None
returns-in-None g c =
    let v = c.args.self.now in
    subst (TellsReady v c.args.end None) (sym c.in-Node.is)
    (node_not_ready v c.network-network.ensures.sound.valid c.args.end c.in-Node.n (subst (λ p. slice_get (ends_of v.declared) c.args.end ≡ Some p) c.in-Node.is c.requires.starts) c.requires.within c.node.result.now c.node.ensures
    c.network-network.result.now c.network-network.ensures.network c.self.inside.wires (ap (λ (k : NetView g.row.R.Denot g.row.A.Denot). k.between) c.self.view_is) c.in-None.ensures)

pub switch-requires : goal.switch-requires
switch-requires g c = (subst (IsIn (length c.args.self.now.declared.nodes) (length c.args.self.now.declared.switches)) c.in-Switch.is c.requires.inside).0

pub possible_step-requires-in-Switch-clause-cell : goal.possible_step-requires-in-Switch-clause-cell
possible_step-requires-in-Switch-clause-cell g c = subst (λ (d : Declaration). IsSwitchFor g.R.Routing.answer g.A.Arbiter.ports d c.in-Switch.w c.switch.result.now) (sym c.network-network.ensures.network) (c.network-network.ensures.sound.switches c.in-Switch.w c.switch.result.now c.switch.ensures)

pub possible_step-requires-in-Switch-clause-at : goal.possible_step-requires-in-Switch-clause-at
possible_step-requires-in-Switch-clause-at g c =
    let starts = start_at_switch c.args.self.now.declared c.args.end c.in-Switch.w c.in-Switch.field-1 (subst (λ p. slice_get (ends_of c.args.self.now.declared) c.args.end ≡ Some p) c.in-Switch.is c.requires.starts) in
    subst (λ (d : Declaration). (network_of d).start_of c.args.end ≡ AtSwitch c.in-Switch.w) (sym c.network-network.ensures.network) starts

pub possible_step-requires-in-Switch-clause-reached : goal.possible_step-requires-in-Switch-clause-reached
possible_step-requires-in-Switch-clause-reached g c =
    let v = c.args.self.now in
    subst (λ (d : Declaration). HasSwitchState d c.in-Switch.w c.switch.result.now c.self.inside.wires) (sym c.network-network.ensures.network)
    (subst (λ (k : NetView g.row.R.Denot g.row.A.Denot). HasSwitchState v.declared c.in-Switch.w c.switch.result.now k.between) (sym c.self.view_is)
    (has_switch g.R.Routing.answer g.A.Arbiter.ports v.declared v.nodes v.switches v.between c.network-network.ensures.sound (Emit 0) c.in-Switch.w c.switch.result.now c.switch.ensures))

pub returns-in-Some-possible_step : goal.returns-in-Some-possible_step
returns-in-Some-possible_step g c =
    port_ready c.args.self.now c.args.end c.in-Switch.w c.switch.result.now c.switch.ensures
    c.network-network.result.now c.network-network.ensures.network c.self.inside.wires (ap (λ (k : NetView g.row.R.Denot g.row.A.Denot). k.between) c.self.view_is)
    c.in-Some-possible_step.first (machine_move c.port_step.result) c.in-Some-possible_step.ensures c.port_step.ensures

pub returns-in-None-possible_step : goal.returns-in-None-possible_step
returns-in-None-possible_step g c =
    let v = c.args.self.now in
    subst (TellsReady v c.args.end None) (sym c.in-Switch.is)
    (port_not_ready v c.args.end c.in-Switch.w c.switch.result.now c.switch.ensures
    c.network-network.result.now c.network-network.ensures.network c.self.inside.wires (ap (λ (k : NetView g.row.R.Denot g.row.A.Denot). k.between) c.self.view_is) c.in-None-possible_step.ensures)
