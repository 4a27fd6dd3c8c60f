use Rattle.std.proofs.Common.{arith, refl}
use Rattle.sw_linter.specs.Marks.{slip_at}
use Rattle.sw_linter.proofs.Ranges.{begun, ended, grown}
use Rattle.sw_linter.proofs.slips.add_slips.Goals as goal

pub loop-number-init : goal.loop-number-init
loop-number-init c = begun (slip_at c.args.network.now c.args.nodes.now c.args.marks.now c.args.slip.now) c.args.lints.now.items

pub loop-number-preserved : goal.loop-number-preserved
loop-number-preserved c =
    let told = slip_at c.args.network.now c.args.nodes.now c.args.marks.now c.args.slip.now in
    grown told _ _ _ _ c.loop-number.number c.loop-number.invariant refl c.in_ok-add_at.ensures

pub returns : goal.returns
returns c =
    ended (slip_at c.args.network.now c.args.nodes.now c.args.marks.now c.args.slip.now) _ _ c.loop-number.number _ (omega (arith, c.loop-number-test.false, c.loop-number.auto.number-end, c.count_of-number-end.ensures)) c.loop-number.invariant
