use Rattle.std.proofs.Common.{subst, sym, ◌<◌, arith, true}
use Rattle.sw_link.specs.Ends.{granted}
use Rattle.sw_switch.specs.Cell.{credit_at}
use Rattle.sw_cell.specs.SwitchParts.{IsSwitchFor}
use Rattle.sw_cell.proofs.Switches as switches
use Rattle.sw_machine.specs.Steps.{FctIn}
use Rattle.sw_link.specs.Between.{fcts_at}
use Rattle.sw_cell.proofs.switch.fct_in.Goals as goal

pub fcts-requires : goal.fcts-requires
fcts-requires g c = switches.start_has_wire c.requires.cell c.requires.reached c.args.channel c.output-port.ensures

pub returns-then-fcts-eq0-clause-made : goal.returns-then-fcts-eq0-clause-made
returns-then-fcts-eq0-clause-made g c =
    let e = c.fcts.ensures in
    let z = c.if-fcts-eq0.true in
    switches.fct_in_not g.R.Routing.answer g.A.Arbiter.ports c.args.network.now c.args.w c.args.cell.now c.requires.cell c.args.wires.now c.args.channel c.output-port.result c.output-port.ensures (omega arith)

pub take_fct-requires-clause-within : goal.take_fct-requires-clause-within
take_fct-requires-clause-within g c = switches.start_has_wire c.requires.cell c.requires.reached c.args.channel c.output-port.ensures

pub fct_in-requires : goal.fct_in-requires
fct_in-requires g c =
    let e = c.fcts.ensures in
    let z = c.if-fcts-eq0.false in
    let some : 0 < fcts_at c.args.wires.now c.args.channel = omega arith in
    switches.fct_in_room g.R.Routing.answer g.A.Arbiter.ports c.args.network.now c.args.w c.args.cell.now c.requires.cell c.args.wires.now c.args.channel c.output-port.result c.output-port.ensures c.requires.reached some

pub returns-clause-made : goal.returns-clause-made
returns-clause-made g c =
    let e = c.fcts.ensures in
    let z = c.if-fcts-eq0.false in
    let some : 0 < fcts_at c.args.wires.now c.args.channel = omega arith in
    switches.made_as c.args.network.now c.args.w c.args.cell.now c.args.wires.now (FctIn c.args.channel) true _ c.fct_in.new.self _ c.take_fct.new.self
    c.fct_in.ensures
    c.take_fct.ensures
    (switches.fct_in_made g.R.Routing.answer g.A.Arbiter.ports c.args.network.now c.args.w c.args.cell.now c.requires.cell c.args.wires.now c.args.channel c.output-port.result c.output-port.ensures some)

pub returns-clause-cell : goal.returns-clause-cell
returns-clause-cell g c =
    subst (λ k. IsSwitchFor g.R.Routing.answer g.A.Arbiter.ports c.args.network.now c.args.w k) (sym c.fct_in.ensures)
    (switches.kept_credit g.R.Routing.answer g.A.Arbiter.ports c.args.network.now c.args.w c.args.cell.now c.requires.cell c.output-port.result (granted (credit_at c.args.cell.now c.output-port.result)))
