use Rattle.std.proofs.Common.{arith}
use Rattle.sw_mend.proofs.OfKinds.{kind_more, kinds_all}
use Rattle.sw_mend.proofs.listing.removals.Goals as goal

pub loop-kind-preserved : goal.loop-kind-preserved
loop-kind-preserved c =
    kind_more c.args.network.now c.args.kinds.now c.loop-kind.kind-index _ c.loop-kind.changes.items c.add_all.new.changes.items c.loop-kind-test.true c.loop-kind.invariant c.in_ok-add_all.ensures

pub returns : goal.returns
returns c = kinds_all c.args.network.now c.args.kinds.now c.loop-kind.kind-index c.loop-kind.changes.items (omega (arith, c.loop-kind-test.false)) c.loop-kind.invariant
