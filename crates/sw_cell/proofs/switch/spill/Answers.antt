use Rattle.std.proofs.Common.{sym, subst, true}
use Rattle.std.proofs.lemmas.Bool.Decides.{not_from_Decides}
use Rattle.sw_cell.proofs.Passing as passing
use Rattle.sw_cell.proofs.switch.spill.Goals as goal
use Rattle.sw_cell.specs.SwitchParts.{IsSwitchFor, SwitchMakes}
use Rattle.sw_machine.specs.Steps.{Spill}

pub returns-then-not-can_spill-clause-made : goal.returns-then-not-can_spill-clause-made
returns-then-not-can_spill-clause-made g c = λ b.
    passing.spill_not g.R.Routing.answer g.A.Arbiter.ports c.args.network.now c.args.w c.args.cell.now c.requires.cell b c.args.channel c.input-port.result c.input-port.ensures (not_from_Decides c.can_spill.result c.can_spill.ensures c.if-not-can_spill.true)

pub returns-clause-cell : goal.returns-clause-cell
returns-clause-cell g c =
    subst (λ k. IsSwitchFor g.R.Routing.answer g.A.Arbiter.ports c.args.network.now c.args.w k) (sym c.spill.ensures)
    (passing.kept_spilled g.R.Routing.answer g.A.Arbiter.ports c.args.network.now c.args.w c.args.cell.now c.requires.cell c.args.channel c.input-port.result c.input-port.ensures (c.can_spill.ensures.0 c.if-not-can_spill.false))

pub returns-clause-made : goal.returns-clause-made
returns-clause-made g c = λ b.
    subst (λ k. SwitchMakes c.args.network.now c.args.w c.args.cell.now b (Spill c.args.channel) true k b) (sym c.spill.ensures)
    (passing.spill_made g.R.Routing.answer g.A.Arbiter.ports c.args.network.now c.args.w c.args.cell.now c.requires.cell b c.args.channel c.input-port.result c.input-port.ensures (c.can_spill.ensures.0 c.if-not-can_spill.false))
