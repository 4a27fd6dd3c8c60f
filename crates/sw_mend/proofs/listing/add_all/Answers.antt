use Rattle.std.proofs.Common.{◌≤◌, arith}
use Rattle.sw_mend.specs.Kinds.{count_of}
use Rattle.sw_mend.proofs.OfKinds.{all_numbers, none_before, number_more}
use Rattle.sw_mend.proofs.listing.add_all.Goals as goal

pub loop-number-init : goal.loop-number-init
loop-number-init c = none_before c.args.network.now c.args.kind.now c.args.changes.now.items

pub loop-number-preserved : goal.loop-number-preserved
loop-number-preserved c =
    number_more c.args.network.now c.args.kind.now c.loop-number.number c.args.changes.now.items c.loop-number.changes.items c.add_at.new.changes.items c.loop-number.invariant c.in_ok-add_at.ensures

pub returns : goal.returns
returns c =
    let past : count_of c.args.network.now c.args.kind.now ≤ c.loop-number.number = omega (arith, c.loop-number-test.false, c.count_of-number-end.ensures) in
    all_numbers c.args.network.now c.args.kind.now c.loop-number.number c.args.changes.now.items c.loop-number.changes.items past c.loop-number.invariant
