use Rattle.sw_graph.proofs.RelationSteps.{empty_rows_more}
use Rattle.sw_graph.proofs.rows.empty_rows.Goals as goal

pub loop-preserved : goal.loop-preserved
loop-preserved c = empty_rows_more c.loop.rows.items c.push.new.self.items c.new.result c.loop.counter c.loop.invariant c.new.ensures.items c.in_ok-push.ensures.items
