use Rattle.std.proofs.Common.{sym, subst, true}
use Rattle.std.proofs.lemmas.Bool.Decides.{not_from_Decides}
use Rattle.sw_cell.proofs.Dropping as passing
use Rattle.sw_cell.proofs.switch.drop_front.Goals as goal
use Rattle.sw_cell.specs.SwitchParts.{IsSwitchFor, SwitchMakes}
use Rattle.sw_machine.specs.Steps.{Drop}

pub returns-then-not-can_drop-clause-made : goal.returns-then-not-can_drop-clause-made
returns-then-not-can_drop-clause-made g c = λ b.
    passing.drop_not g.R.Routing.answer g.A.Arbiter.ports c.args.network.now c.args.w c.args.cell.now c.requires.cell b c.args.channel c.input-port.result c.input-port.ensures (not_from_Decides c.can_drop.result c.can_drop.ensures c.if-not-can_drop.true)

pub returns-clause-cell : goal.returns-clause-cell
returns-clause-cell g c =
    subst (λ k. IsSwitchFor g.R.Routing.answer g.A.Arbiter.ports c.args.network.now c.args.w k) (sym c.drop_front.ensures)
    (passing.kept_dropped g.R.Routing.answer g.A.Arbiter.ports c.args.network.now c.args.w c.args.cell.now c.requires.cell c.args.channel c.input-port.result c.input-port.ensures (c.can_drop.ensures.0 c.if-not-can_drop.false))

pub returns-clause-made : goal.returns-clause-made
returns-clause-made g c = λ b.
    subst (λ k. SwitchMakes c.args.network.now c.args.w c.args.cell.now b (Drop c.args.channel) true k b) (sym c.drop_front.ensures)
    (passing.drop_made g.R.Routing.answer g.A.Arbiter.ports c.args.network.now c.args.w c.args.cell.now c.requires.cell b c.args.channel c.input-port.result c.input-port.ensures (c.can_drop.ensures.0 c.if-not-can_drop.false))
