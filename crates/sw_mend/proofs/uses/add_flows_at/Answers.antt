use Rattle.std.proofs.Common.{arith}
use Rattle.sw_mend.proofs.Using.{all_at, one_at_more}
use Rattle.sw_mend.proofs.uses.add_flows_at.Goals as goal

pub loop-number-init : goal.loop-number-init
loop-number-init c = (λ k there. there, λ k lt. absurd (omega (arith, lt)))

pub loop-number-preserved : goal.loop-number-preserved
loop-number-preserved c =
    let more = c.in_ok-add_if_at.ensures in (
      λ k there. more.0 k (c.loop-number.invariant.0 k there),
      one_at_more c.args.network.now c.args.node c.loop-number.number _ _ c.loop-number.invariant.1 more.0 more.1,
    )

pub returns : goal.returns
returns c =
    (c.loop-number.invariant.0, all_at c.args.network.now c.args.node c.loop-number.number _ (omega (arith, c.loop-number-test.false, c.declared_flows-number-end.ensures.count)) c.loop-number.invariant.1)
