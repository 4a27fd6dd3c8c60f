use Rattle.std.proofs.Common.{subst, sym, refl, ◌∙◌, true}
use Rattle.sw_link.specs.Ends.{arrived}
use Rattle.sw_switch.specs.Cell.{end_at}
use Rattle.sw_cell.specs.SwitchParts.{IsSwitchFor}
use Rattle.sw_topo.specs.Wiring.{partner}
use Rattle.sw_cell.proofs.Switches as switches
use Rattle.sw_machine.specs.Steps.{Arrive}
use Rattle.sw_cell.proofs.switch.arrive.Goals as goal

pub first-requires : goal.first-requires
first-requires g c = switches.end_has_wire c.requires.cell c.requires.reached c.args.channel c.input-port.ensures

pub returns-in_default-clause-made : goal.returns-in_default-clause-made
returns-in_default-clause-made g c =
    switches.arrive_not g.R.Routing.answer g.A.Arbiter.ports c.args.network.now c.args.w c.args.cell.now c.requires.cell c.args.wires.now c.args.channel c.input-port.result c.input-port.ensures (sym c.first.ensures ∙ c.in_default.is)

pub take-requires : goal.take-requires
take-requires g c = switches.end_has_wire c.requires.cell c.requires.reached c.args.channel c.input-port.ensures

pub arrive-requires : goal.arrive-requires
arrive-requires g c =
    let front = sym c.first.ensures ∙ c.in-Some.is in
    switches.arrive_asked g.R.Routing.answer g.A.Arbiter.ports c.args.network.now c.args.w c.args.cell.now c.requires.cell c.args.wires.now c.args.channel c.input-port.result c.in-Some.character c.input-port.ensures c.requires.reached front

pub returns-clause-made : goal.returns-clause-made
returns-clause-made g c =
    let front = sym c.first.ensures ∙ c.in-Some.is in
    switches.made_as c.args.network.now c.args.w c.args.cell.now c.args.wires.now (Arrive c.args.channel) true _ c.arrive.new.self _ c.take.new.self
    c.arrive.ensures
    c.take.ensures.after
    (switches.arrive_made g.R.Routing.answer g.A.Arbiter.ports c.args.network.now c.args.w c.args.cell.now c.requires.cell c.args.wires.now c.args.channel c.input-port.result c.in-Some.character c.input-port.ensures front)

pub returns-clause-cell : goal.returns-clause-cell
returns-clause-cell g c =
    subst (λ k. IsSwitchFor g.R.Routing.answer g.A.Arbiter.ports c.args.network.now c.args.w k) (sym c.arrive.ensures)
    (switches.kept_end g.R.Routing.answer g.A.Arbiter.ports c.args.network.now c.args.w c.args.cell.now c.requires.cell c.input-port.result (arrived c.in-Some.character (end_at c.args.cell.now c.input-port.result)) (switches.port_small c.args.network.now c.requires.cell.valid (partner c.args.channel) c.args.w c.input-port.result c.input-port.ensures) refl)
