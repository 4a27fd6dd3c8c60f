use Rattle.std.proofs.Common.{sym, ◌∙◌}
use Rattle.std.proofs.lemmas.Bool.{both_ways}
use Rattle.sw_switch.specs.Conditions.{is_held}
use Rattle.sw_switch.proofs.Asking.{all_can, none_can, none_in_empty}
use Rattle.sw_switch.proofs.cell.SwitchCell.asks.Goals as goal
use Rattle.sw_switch.proofs.cell.SwitchCell.asks.Goals.{then-is_empty-via-then-is_empty, then-is_empty-via-else-is_empty+then-is_held}

pub returns-then-is_empty : goal.returns-then-is_empty
returns-then-is_empty g c = none_can g.R.Routing.answer c.args.self.now c.args.out (λ input can. elim c.then-is_empty.branch [
  | then-is_empty-via-then-is_empty w ↦ none_in_empty c.asking-asking.result input (c.is_empty.ensures.value.0 w.if-is_empty.true) ((c.asking-asking.ensures input).1 can.asks)
  | then-is_empty-via-else-is_empty+then-is_held w ↦ both_ways (is_held c.args.self.now c.args.out) can.free (sym w.is_held.ensures ∙ w.if-is_held.true)
])

pub returns : goal.returns
returns g c = all_can g.R.Routing.answer c.args.self.now c.args.out c.asking-asking.result (c.is_linked.ensures.0 c.if-not-is_linked.false) (sym c.is_held.ensures ∙ c.if-is_held.false) c.asking-asking.ensures
