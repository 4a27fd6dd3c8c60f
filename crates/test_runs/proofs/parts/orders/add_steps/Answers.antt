use Rattle.std.proofs.Common.{arith, sym, ◌∙◌}
use Rattle.test_runs.proofs.Rows.{graph_made}
use Rattle.test_runs.proofs.parts.orders.add_steps.Goals as goal

pub loop-from-preserved : goal.loop-from-preserved
loop-from-preserved c =
    graph_made c.add_to_row.result c.loop-from.rows c.add_to_row.new.rows c.from-place.result _ c.loop-from.invariant c.if-rows-place.false
    (omega (arith, c.from-successor.ensures, c.if-rows-successor.false)) (sym c.is_err.ensures.value ∙ c.if-is_err.false) c.add_to_row.ensures.added
