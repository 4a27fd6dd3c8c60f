use Rattle.std.proofs.Common.{ap, subst, sym, ◌∙◌, ◌≡◌}
use Rattle.std.specs.Prelude.{Err}
use Rattle.sw_cell.specs.Makes.{HasNodeState}
use Rattle.sw_cell.specs.Parts.{IsNodeFor}
use Rattle.sw_cell.specs.Places.{IsAt, IsDoneAt}
use Rattle.sw_cell.specs.Possible.{NodeTells, SwitchTells, step_at_node, step_at_port}
use Rattle.sw_cell.specs.SwitchParts.{HasSwitchState, IsSwitchFor}
use Rattle.sw_cell.specs.declared.cell.CellId.TheVariants as place
use Rattle.sw_config.specs.Entries.{Declaration}
use Rattle.sw_machine.specs.Network.{AtSwitch}
use Rattle.sw_machine.specs.Steps.{Emit, Grant, is_begin}
use Rattle.sw_machine.specs.Model.{network_of}
use Rattle.sw_machine.specs.StepValues.{machine_step}
use Rattle.sw_net.proofs.Possibles as steps
use Rattle.sw_net.proofs.Steps.{has_node, has_switch}
use Rattle.sw_net.proofs.net.Net.is_possible.Goals as goal
use Rattle.sw_net.specs.Net.{NetView}
use Rattle.sw_net.specs.Possible.{granted_by, kind_at_node, kind_at_port}
use Rattle.sw_machine.specs.declared.step.Step.{Step}

pub returns-in-Err : goal.returns-in-Err
returns-in-Err g c =
    let step = machine_step c.args.step.now in
    steps.nowhere_told c.args.self.now step c.in-Err.field-0 (subst (λ (d : Declaration). IsDoneAt d step (Err c.in-Err.field-0)) c.network-network.ensures.network c.in-Err.ensures)

pub returns-in-Begin : goal.returns-in-Begin
returns-in-Begin g c = steps.begin_at_node c.args.self.now c.network-network.ensures.sound.valid (machine_step c.args.step.now) c.in-Ok-Node.n (subst (λ (d : Declaration). IsAt d (machine_step c.args.step.now) (place.Node c.in-Ok-Node.n)) c.network-network.ensures.network (subst (IsAt c.network-network.result.now (machine_step c.args.step.now)) c.in-Ok-Node.field-0-is c.in-Ok-Node.ensures)) c.can_begin.result (ap (λ (s : Step). is_begin (machine_step s)) c.in-Begin.is) c.can_begin.ensures

pub is_possible-requires-clause-node : goal.is_possible-requires-clause-node
is_possible-requires-clause-node g c = subst (λ (d : Declaration). IsNodeFor d c.in-Ok-Node.n c.node.result.now) (sym c.network-network.ensures.network) (c.network-network.ensures.sound.nodes c.in-Ok-Node.n c.node.result.now c.node.ensures)

pub is_possible-requires-clause-reached : goal.is_possible-requires-clause-reached
is_possible-requires-clause-reached g c =
    let v = c.args.self.now in
    subst (λ (d : Declaration). HasNodeState (network_of d) c.in-Ok-Node.n c.node.result.now c.self.inside.wires) (sym c.network-network.ensures.network)
    (subst (λ (k : NetView g.row.R.Denot g.row.A.Denot). HasNodeState (network_of v.declared) c.in-Ok-Node.n c.node.result.now k.between) (sym c.self.view_is)
    (has_node g.R.Routing.answer g.A.Arbiter.ports v.declared v.nodes v.switches v.between c.network-network.ensures.sound (Emit 0) c.in-Ok-Node.n c.node.result.now c.node.ensures))

pub returns-in-Some : goal.returns-in-Some
returns-in-Some g c =
    let v = c.args.self.now in
    let kind = c.in-Some.kind in
    let told = subst (λ (d : Declaration). NodeTells (network_of d) c.in-Ok-Node.n c.node.result.now c.self.inside.wires (step_at_node (network_of d) c.in-Ok-Node.n kind) c.is_possible.result) c.network-network.ensures.network c.is_possible.ensures in
    let here = steps.node_told v c.in-Ok-Node.n c.node.result.now (step_at_node (network_of v.declared) c.in-Ok-Node.n kind) c.is_possible.result c.node.ensures
    (subst (λ (k : NetView g.row.R.Denot g.row.A.Denot). NodeTells (network_of v.declared) c.in-Ok-Node.n c.node.result.now k.between (step_at_node (network_of v.declared) c.in-Ok-Node.n kind) c.is_possible.result) c.self.view_is told) in
    steps.at_node_told v c.network-network.ensures.sound.valid (machine_step c.args.step.now) c.in-Ok-Node.n (subst (λ (d : Declaration). IsAt d (machine_step c.args.step.now) (place.Node c.in-Ok-Node.n)) c.network-network.ensures.network (subst (IsAt c.network-network.result.now (machine_step c.args.step.now)) c.in-Ok-Node.field-0-is c.in-Ok-Node.ensures)) kind c.is_possible.result (sym c.in-Some.is ∙ c.node_kind.ensures ∙ ap (λ (s : Step). kind_at_node (machine_step s)) (sym c.in-Move.is)) here

pub returns-in-None : goal.returns-in-None
returns-in-None g c = steps.never_at_node c.args.self.now c.network-network.ensures.sound.valid (machine_step c.args.step.now) c.in-Ok-Node.n (subst (λ (d : Declaration). IsAt d (machine_step c.args.step.now) (place.Node c.in-Ok-Node.n)) c.network-network.ensures.network (subst (IsAt c.network-network.result.now (machine_step c.args.step.now)) c.in-Ok-Node.field-0-is c.in-Ok-Node.ensures)) (ap (λ (s : Step). is_begin (machine_step s)) c.in-Move.is ∙ steps.no_beginning c.in-Move.step) (ap (λ (s : Step). kind_at_node (machine_step s)) c.in-Move.is ∙ sym c.node_kind.ensures ∙ c.in-None.is)

pub is_possible-requires-in-Some-port_kind-clause-cell : goal.is_possible-requires-in-Some-port_kind-clause-cell
is_possible-requires-in-Some-port_kind-clause-cell g c =
    let sound = c.network-network.ensures.sound in
    let cell = c.switch-cell.result.now in
    subst (λ (d : Declaration). IsSwitchFor g.R.Routing.answer g.A.Arbiter.ports d c.in-Ok-Switch.w cell) (sym c.network-network.ensures.network) (sound.switches c.in-Ok-Switch.w cell c.switch-cell.ensures)

pub is_possible-requires-in-Some-port_kind-clause-at : goal.is_possible-requires-in-Some-port_kind-clause-at
is_possible-requires-in-Some-port_kind-clause-at g c =
    let at = steps.at_port_stands c.args.self.now c.network-network.ensures.sound.valid (machine_step c.args.step.now) c.in-Ok-Switch.w (subst (λ (d : Declaration). IsAt d (machine_step c.args.step.now) (place.Switch c.in-Ok-Switch.w)) c.network-network.ensures.network (subst (IsAt c.network-network.result.now (machine_step c.args.step.now)) c.in-Ok-Switch.field-0-is c.in-Ok-Switch.ensures)) c.in-Some-port_kind.asked (sym c.in-Some-port_kind.is ∙ c.port_kind.ensures ∙ ap (λ (s : Step). kind_at_port (machine_step s)) (sym c.in-Move-step.is)) in
    subst (λ (d : Declaration). (network_of d).start_of c.in-Some-port_kind.asked.0 ≡ AtSwitch c.in-Ok-Switch.w) (sym c.network-network.ensures.network) at

pub is_possible-requires-in-Some-port_kind-clause-reached : goal.is_possible-requires-in-Some-port_kind-clause-reached
is_possible-requires-in-Some-port_kind-clause-reached g c =
    let v = c.args.self.now in
    let cell = c.switch-cell.result.now in
    subst (λ (d : Declaration). HasSwitchState d c.in-Ok-Switch.w cell c.self.inside.wires) (sym c.network-network.ensures.network)
    (subst (λ (k : NetView g.row.R.Denot g.row.A.Denot). HasSwitchState v.declared c.in-Ok-Switch.w cell k.between) (sym c.self.view_is)
    (has_switch g.R.Routing.answer g.A.Arbiter.ports v.declared v.nodes v.switches v.between c.network-network.ensures.sound (Emit 0) c.in-Ok-Switch.w cell c.switch-cell.ensures))

pub returns-in-Some-port_kind : goal.returns-in-Some-port_kind
returns-in-Some-port_kind g c =
    let v = c.args.self.now in
    let cell = c.switch-cell.result.now in
    let asked = c.in-Some-port_kind.asked in
    let step = step_at_port asked.0 asked.1 in
    let told = subst (λ (d : Declaration). SwitchTells d c.in-Ok-Switch.w cell c.self.inside.wires step c.is_possible-in-Some-port_kind.result) c.network-network.ensures.network c.is_possible-in-Some-port_kind.ensures in
    let here = subst (λ (k : NetView g.row.R.Denot g.row.A.Denot). SwitchTells v.declared c.in-Ok-Switch.w cell k.between step c.is_possible-in-Some-port_kind.result) c.self.view_is told in
    steps.at_port_told v c.network-network.ensures.sound.valid (machine_step c.args.step.now) asked c.is_possible-in-Some-port_kind.result (sym c.in-Some-port_kind.is ∙ c.port_kind.ensures ∙ ap (λ (s : Step). kind_at_port (machine_step s)) (sym c.in-Move-step.is)) (steps.switch_told v c.in-Ok-Switch.w cell step c.is_possible-in-Some-port_kind.result c.switch-cell.ensures here)

pub can_grant-requires-clause-cell : goal.can_grant-requires-clause-cell
can_grant-requires-clause-cell g c =
    let sound = c.network-network.ensures.sound in
    let cell = c.switch-cell.result.now in
    subst (λ (d : Declaration). IsSwitchFor g.R.Routing.answer g.A.Arbiter.ports d c.in-Ok-Switch.w cell) (sym c.network-network.ensures.network) (sound.switches c.in-Ok-Switch.w cell c.switch-cell.ensures)

pub can_grant-requires-clause-at : goal.can_grant-requires-clause-at
can_grant-requires-clause-at g c =
    let grant = c.in-Some-grant_of.grant in
    let at = steps.granted_ends c.args.self.now c.network-network.ensures.sound.valid (machine_step c.args.step.now) c.in-Ok-Switch.w (subst (λ (d : Declaration). IsAt d (machine_step c.args.step.now) (place.Switch c.in-Ok-Switch.w)) c.network-network.ensures.network (subst (IsAt c.network-network.result.now (machine_step c.args.step.now)) c.in-Ok-Switch.field-0-is c.in-Ok-Switch.ensures)) grant (sym c.in-Some-grant_of.is ∙ c.grant_of.ensures ∙ ap (λ (s : Step). granted_by (machine_step s)) (sym c.in-Move-step.is)) in
    subst (λ (d : Declaration). (network_of d).end_of grant.1 ≡ AtSwitch c.in-Ok-Switch.w) (sym c.network-network.ensures.network) at

pub returns-in-Some-grant_of : goal.returns-in-Some-grant_of
returns-in-Some-grant_of g c =
    let v = c.args.self.now in
    let cell = c.switch-cell.result.now in
    let grant = c.in-Some-grant_of.grant in
    let told = subst (λ (d : Declaration). SwitchTells d c.in-Ok-Switch.w cell v.between (Grant grant.0 grant.1) c.can_grant.result) c.network-network.ensures.network (c.can_grant.ensures v.between) in
    steps.granted_told v c.network-network.ensures.sound.valid (machine_step c.args.step.now) grant c.can_grant.result (sym c.in-Some-grant_of.is ∙ c.grant_of.ensures ∙ ap (λ (s : Step). granted_by (machine_step s)) (sym c.in-Move-step.is)) (steps.switch_told v c.in-Ok-Switch.w cell (Grant grant.0 grant.1) c.can_grant.result c.switch-cell.ensures told)

pub returns-in-None-grant_of : goal.returns-in-None-grant_of
returns-in-None-grant_of g c = steps.never_at_switch c.args.self.now c.network-network.ensures.sound.valid (machine_step c.args.step.now) c.in-Ok-Switch.w (subst (λ (d : Declaration). IsAt d (machine_step c.args.step.now) (place.Switch c.in-Ok-Switch.w)) c.network-network.ensures.network (subst (IsAt c.network-network.result.now (machine_step c.args.step.now)) c.in-Ok-Switch.field-0-is c.in-Ok-Switch.ensures)) (ap (λ (s : Step). kind_at_port (machine_step s)) c.in-Move-step.is ∙ sym c.port_kind.ensures ∙ c.in-None-port_kind.is) (ap (λ (s : Step). granted_by (machine_step s)) c.in-Move-step.is ∙ sym c.grant_of.ensures ∙ c.in-None-grant_of.is)

pub returns-in_default : goal.returns-in_default
returns-in_default g c = steps.begins_at_switch c.args.self.now c.network-network.ensures.sound.valid c.args.step.now c.in-Ok-Switch.w (subst (λ (d : Declaration). IsAt d (machine_step c.args.step.now) (place.Switch c.in-Ok-Switch.w)) c.network-network.ensures.network (subst (IsAt c.network-network.result.now (machine_step c.args.step.now)) c.in-Ok-Switch.field-0-is c.in-Ok-Switch.ensures)) c.in_default.not-Move
