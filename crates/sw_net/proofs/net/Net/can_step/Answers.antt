use Rattle.std.proofs.Common.{subst, sym, ◌≡◌}
use Rattle.sw_cell.specs.Makes.{HasNodeState}
use Rattle.sw_cell.specs.Parts.{IsNodeFor}
use Rattle.sw_cell.specs.Possible.{NodeEnabled, PortEnabled}
use Rattle.sw_cell.specs.SwitchParts.{HasSwitchState, IsSwitchFor}
use Rattle.sw_machine.specs.Network.{AtSwitch}
use Rattle.sw_machine.specs.Steps.{Emit}
use Rattle.sw_machine.specs.Model.{network_of}
use Rattle.sw_net.proofs.Steps.{has_node, has_switch}
use Rattle.sw_net.proofs.Told.{node_tells, start_at_node, start_at_switch, switch_tells}
use Rattle.sw_net.proofs.net.Net.can_step.Goals as goal
use Rattle.sw_net.specs.Net.{NetView}

pub can_step-requires-clause-node : goal.can_step-requires-clause-node
can_step-requires-clause-node g c = subst (λ (k : NetView g.row.R.Denot g.row.A.Denot). IsNodeFor k.declared c.in-Node.n c.node.result.now) (sym c.self.view_is) (c.place_of.ensures.sound.nodes c.in-Node.n c.node.result.now c.node.ensures)

pub can_step-requires-clause-reached : goal.can_step-requires-clause-reached
can_step-requires-clause-reached g c =
    let v = c.args.self.now in
    subst (λ (k : NetView g.row.R.Denot g.row.A.Denot). HasNodeState (network_of k.declared) c.in-Node.n c.node.result.now k.between) (sym c.self.view_is)
    (has_node g.R.Routing.answer g.A.Arbiter.ports v.declared v.nodes v.switches v.between c.place_of.ensures.sound (Emit 0) c.in-Node.n c.node.result.now c.node.ensures)

pub can_step-requires-in-Switch-clause-cell : goal.can_step-requires-in-Switch-clause-cell
can_step-requires-in-Switch-clause-cell g c = subst (λ (k : NetView g.row.R.Denot g.row.A.Denot). IsSwitchFor g.R.Routing.answer g.A.Arbiter.ports k.declared c.in-Switch.w c.switch.result.now) (sym c.self.view_is) (c.place_of.ensures.sound.switches c.in-Switch.w c.switch.result.now c.switch.ensures)

pub can_step-requires-in-Switch-clause-at : goal.can_step-requires-in-Switch-clause-at
can_step-requires-in-Switch-clause-at g c =
    let starts = start_at_switch c.args.self.now.declared c.args.end c.in-Switch.w c.in-Switch.field-1 c.in-Switch.ensures.starts in
    subst (λ (k : NetView g.row.R.Denot g.row.A.Denot). (network_of k.declared).start_of c.args.end ≡ AtSwitch c.in-Switch.w) (sym c.self.view_is) starts

pub can_step-requires-in-Switch-clause-reached : goal.can_step-requires-in-Switch-clause-reached
can_step-requires-in-Switch-clause-reached g c =
    let v = c.args.self.now in
    subst (λ (k : NetView g.row.R.Denot g.row.A.Denot). HasSwitchState k.declared c.in-Switch.w c.switch.result.now k.between) (sym c.self.view_is)
    (has_switch g.R.Routing.answer g.A.Arbiter.ports v.declared v.nodes v.switches v.between c.place_of.ensures.sound (Emit 0) c.in-Switch.w c.switch.result.now c.switch.ensures)

pub returns-in-Node : goal.returns-in-Node
returns-in-Node g c =
    let v = c.args.self.now in
    let starts = start_at_node v.declared c.args.end c.in-Node.n c.in-Node.ensures.starts in
    node_tells v c.place_of.ensures.sound.valid c.in-Node.n c.node.result.now c.args.end c.can_step.result c.node.ensures c.place_of.ensures.within starts
    (subst (λ (k : NetView g.row.R.Denot g.row.A.Denot). NodeEnabled (network_of k.declared) c.in-Node.n c.node.result.now k.between c.can_step.result) c.self.view_is c.can_step.ensures)

pub returns-in-Switch : goal.returns-in-Switch
returns-in-Switch g c =
    let v = c.args.self.now in
    switch_tells v c.place_of.ensures.sound.valid c.in-Switch.w c.switch.result.now c.args.end c.can_step-in-Switch.result c.switch.ensures
    (subst (λ (k : NetView g.row.R.Denot g.row.A.Denot). PortEnabled k.declared c.in-Switch.w c.switch.result.now k.between c.args.end c.can_step-in-Switch.result) c.self.view_is c.can_step-in-Switch.ensures)
