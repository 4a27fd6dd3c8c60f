use Rattle.std.proofs.Common.{subst, sym, refl, true}
use Rattle.sw_link.specs.Ends.{asked}
use Rattle.sw_switch.specs.Cell.{end_at}
use Rattle.sw_cell.specs.SwitchParts.{IsSwitchFor}
use Rattle.sw_topo.specs.Wiring.{partner}
use Rattle.std.proofs.lemmas.Bool.Decides.{not_from_Decides}
use Rattle.sw_cell.proofs.Switches as switches
use Rattle.sw_machine.specs.Steps.{Fct}
use Rattle.sw_cell.proofs.switch.fct.Goals as goal

pub returns-then-not-can_issue-clause-made : goal.returns-then-not-can_issue-clause-made
returns-then-not-can_issue-clause-made g c =
    switches.fct_not g.R.Routing.answer g.A.Arbiter.ports c.args.network.now c.args.w c.args.cell.now c.requires.cell c.args.wires.now c.args.channel c.input-port.result c.input-port.ensures (not_from_Decides c.can_issue.result c.can_issue.ensures c.if-not-can_issue.true)

pub send_fct-requires-clause-within : goal.send_fct-requires-clause-within
send_fct-requires-clause-within g c = switches.end_has_wire c.requires.cell c.requires.reached c.args.channel c.input-port.ensures

pub send_fct-requires-clause-few : goal.send_fct-requires-clause-few
send_fct-requires-clause-few g c =
    switches.fct_few g.R.Routing.answer g.A.Arbiter.ports c.args.network.now c.args.w c.args.cell.now c.requires.cell c.args.wires.now c.args.channel c.input-port.result c.input-port.ensures c.requires.reached (c.can_issue.ensures.0 c.if-not-can_issue.false)

pub returns-clause-made : goal.returns-clause-made
returns-clause-made g c =
    switches.made_as c.args.network.now c.args.w c.args.cell.now c.args.wires.now (Fct c.args.channel) true _ c.issue.new.self _ c.send_fct.new.self
    c.issue.ensures
    c.send_fct.ensures
    (switches.fct_made g.R.Routing.answer g.A.Arbiter.ports c.args.network.now c.args.w c.args.cell.now c.requires.cell c.args.wires.now c.args.channel c.input-port.result c.input-port.ensures (c.can_issue.ensures.0 c.if-not-can_issue.false))

pub returns-clause-cell : goal.returns-clause-cell
returns-clause-cell g c =
    subst (λ k. IsSwitchFor g.R.Routing.answer g.A.Arbiter.ports c.args.network.now c.args.w k) (sym c.issue.ensures)
    (switches.kept_end g.R.Routing.answer g.A.Arbiter.ports c.args.network.now c.args.w c.args.cell.now c.requires.cell c.input-port.result (asked (end_at c.args.cell.now c.input-port.result)) (switches.port_small c.args.network.now c.requires.cell.valid (partner c.args.channel) c.args.w c.input-port.result c.input-port.ensures) refl)
