use Rattle.std.proofs.Common.{arith}
use Rattle.sw_mend.specs.Changes.{loses_reply}
use Rattle.sw_mend.proofs.Touching.{none_lost, one_kept}
use Rattle.sw_mend.proofs.sparing.spares_replies.Goals as goal

pub loop-number-init : goal.loop-number-init
loop-number-init c k lt = absurd (omega (arith, lt))

pub loop-number-preserved : goal.loop-number-preserved
loop-number-preserved c =
    one_kept c.args.network.now (loses_reply c.args.change.now) c.args.numbers.now c.loop-number.number-index _ c.loses_reply.result c.loop-number.invariant c.flow.ensures.flow c.loses_reply.ensures c.if-loses_reply.false

pub returns : goal.returns
returns c told = none_lost c.args.network.now (loses_reply c.args.change.now) c.args.numbers.now c.loop-number.number-index (omega (arith, c.loop-number-test.false)) c.loop-number.invariant
