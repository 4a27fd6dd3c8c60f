use Rattle.std.proofs.Common.{ap, ◌∙◌}
use Rattle.sw_switch.specs.Cell.{Cell}
use Rattle.sw_switch.specs.Conditions.{holds}
use Rattle.sw_switch.proofs.Entries.{none_more}
use Rattle.sw_switch.proofs.cell.SwitchCell.is_held.Goals as goal

pub loop-input-preserved : goal.loop-input-preserved
loop-input-preserved g c =
    none_more (holds c.args.out) c.args.self.now.inputs c.deref-input-items.result.now c.loop-input.input-index c.input-item.result c.holds.result c.loop-input-test.true
    (c.deref-input-items.ensures.value ∙ ap (λ (cell : Cell g.row.R.Denot g.row.A.Denot). cell.inputs) c.self.view_is) c.input-item.is c.holds.ensures c.if-holds.false c.loop-input.invariant
