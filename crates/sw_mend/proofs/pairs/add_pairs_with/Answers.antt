use Rattle.std.proofs.Common.{arith}
use Rattle.sw_mend.proofs.Paired.{added_more, all_tried, none_added}
use Rattle.sw_mend.proofs.pairs.add_pairs_with.Goals as goal

pub loop-second-init : goal.loop-second-init
loop-second-init g c = (c.requires, none_added c.args.network.now c.args.first.now _)

pub loop-second-preserved : goal.loop-second-preserved
loop-second-preserved g c = (
  c.in_ok-freed.ensures.known,
  added_more c.args.network.now c.args.first.now c.args.others.now c.loop-second.second-index c.second-item.result _ _ _ c.in_ok-freed.freed c.loop-second-test.true c.second-item.is
      c.loop-second.invariant.1 c.in_ok-freed.ensures.decided c.in_ok-add_if.ensures,
)

pub returns-clause-told : goal.returns-clause-told
returns-clause-told g c =
    all_tried c.args.network.now c.args.first.now c.args.others.now c.loop-second.second-index c.args.pairs.now.items c.loop-second.pairs.items
    (omega (arith, c.loop-second-test.false)) c.loop-second.invariant.1
