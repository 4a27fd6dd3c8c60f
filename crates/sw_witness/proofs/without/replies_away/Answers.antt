use Rattle.sw_witness.proofs.Away.{one_more_change}
use Rattle.sw_witness.proofs.without.replies_away.Goals as goal

pub loop-flow-preserved : goal.loop-flow-preserved
loop-flow-preserved c = one_more_change c.args.flows.now c.loop-flow.flow-index _ _ c.loop-flow-test.true c.loop-flow.invariant c.in_ok-push.ensures.items
