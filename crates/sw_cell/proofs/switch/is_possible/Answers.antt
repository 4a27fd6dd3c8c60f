use Rattle.std.proofs.Common.{◌<◌, ap, length, subst, sym, ◌∙◌}
use Rattle.std.specs.Prelude.{nat_lt}
use Rattle.sw_cell.proofs.Switches as switches
use Rattle.sw_cell.proofs.Telling as telling
use Rattle.sw_cell.proofs.Telling.{any_tells}
use Rattle.sw_cell.proofs.switch.is_possible.Goals as goal
use Rattle.sw_cell.specs.Possible.{SwitchTells, step_at_port}
use Rattle.sw_cell.specs.declared.switch.PortStep.{PortStep}
use Rattle.sw_topo.specs.Wiring.{partner}
use Rattle.sw_link.specs.Between.{fcts_at, wire_at}

pub fcts-requires : goal.fcts-requires
fcts-requires g c =
    let at = switches.port_ends c.requires.cell c.sends.ensures c.output-port.ensures in
    subst (λ k. k < length c.args.wires.now.wires) (sym c.sends-in-FctIn.ensures) (switches.start_has_wire c.requires.cell c.requires.reached c.args.end at.starts)

pub len-requires : goal.len-requires
len-requires g c =
    let at = switches.port_ends c.requires.cell c.sends.ensures c.output-port.ensures in
    subst (λ k. k < length c.args.wires.now.wires) (sym c.receives.ensures) (switches.end_has_wire c.requires.cell c.requires.reached (partner c.args.end) at.ends)

pub returns-in-Fct : goal.returns-in-Fct
returns-in-Fct g c =
    let at = switches.port_ends c.requires.cell c.sends.ensures c.output-port.ensures in
    subst (λ (k : PortStep). SwitchTells c.args.network.now c.args.w c.args.cell.now c.args.wires.now (step_at_port c.args.end k) c.can_issue.result) (sym c.in-Fct.is)
    (telling.port_fct g.R.Routing.answer g.A.Arbiter.ports c.args.network.now c.args.w c.args.cell.now c.requires.cell c.args.wires.now (partner c.args.end) c.output-port.result c.can_issue.result at.ends c.can_issue.ensures)

pub returns-in-FctIn : goal.returns-in-FctIn
returns-in-FctIn g c =
    let at = switches.port_ends c.requires.cell c.sends.ensures c.output-port.ensures in
    let comes = any_tells c.fcts.result (fcts_at c.args.wires.now c.args.end) (c.fcts.ensures ∙ ap (fcts_at c.args.wires.now) c.sends-in-FctIn.ensures) in
    subst (λ (k : PortStep). SwitchTells c.args.network.now c.args.w c.args.cell.now c.args.wires.now (step_at_port c.args.end k) (nat_lt 0 c.fcts.result)) (sym c.in-FctIn.is)
    (telling.port_fct_in g.R.Routing.answer g.A.Arbiter.ports c.args.network.now c.args.w c.args.cell.now c.requires.cell c.args.wires.now c.args.end c.output-port.result (nat_lt 0 c.fcts.result) at.starts comes)

pub returns-in-Arrive : goal.returns-in-Arrive
returns-in-Arrive g c =
    let at = switches.port_ends c.requires.cell c.sends.ensures c.output-port.ensures in
    let comes = any_tells c.len.result (length (wire_at c.args.wires.now (partner c.args.end))) (c.len.ensures.value ∙ ap (λ k. length (wire_at c.args.wires.now k)) c.receives.ensures) in
    subst (λ (k : PortStep). SwitchTells c.args.network.now c.args.w c.args.cell.now c.args.wires.now (step_at_port c.args.end k) (nat_lt 0 c.len.result)) (sym c.in-Arrive.is)
    (telling.port_arrive g.R.Routing.answer g.A.Arbiter.ports c.args.network.now c.args.w c.args.cell.now c.requires.cell c.args.wires.now (partner c.args.end) c.output-port.result (nat_lt 0 c.len.result) at.ends comes)

pub returns-in-DropFront : goal.returns-in-DropFront
returns-in-DropFront g c =
    let at = switches.port_ends c.requires.cell c.sends.ensures c.output-port.ensures in
    subst (λ (k : PortStep). SwitchTells c.args.network.now c.args.w c.args.cell.now c.args.wires.now (step_at_port c.args.end k) c.can_drop.result) (sym c.in-DropFront.is)
    (telling.port_drop g.R.Routing.answer g.A.Arbiter.ports c.args.network.now c.args.w c.args.cell.now c.requires.cell c.args.wires.now (partner c.args.end) c.output-port.result c.can_drop.result at.ends c.can_drop.ensures)

pub returns-in-Forward : goal.returns-in-Forward
returns-in-Forward g c =
    let at = switches.port_ends c.requires.cell c.sends.ensures c.output-port.ensures in
    subst (λ (k : PortStep). SwitchTells c.args.network.now c.args.w c.args.cell.now c.args.wires.now (step_at_port c.args.end k) c.can_forward.result) (sym c.in-Forward.is)
    (telling.port_forward g.R.Routing.answer g.A.Arbiter.ports c.args.network.now c.args.w c.args.cell.now c.requires.cell c.args.wires.now (partner c.args.end) c.output-port.result c.can_forward.result at.ends c.can_forward.ensures)

pub returns-in-Spill : goal.returns-in-Spill
returns-in-Spill g c =
    let at = switches.port_ends c.requires.cell c.sends.ensures c.output-port.ensures in
    subst (λ (k : PortStep). SwitchTells c.args.network.now c.args.w c.args.cell.now c.args.wires.now (step_at_port c.args.end k) c.can_spill.result) (sym c.in-Spill.is)
    (telling.port_spill g.R.Routing.answer g.A.Arbiter.ports c.args.network.now c.args.w c.args.cell.now c.requires.cell c.args.wires.now (partner c.args.end) c.output-port.result c.can_spill.result at.ends c.can_spill.ensures)
