use Rattle.std.proofs.Common.{arith}
use Rattle.sw_margin.proofs.Greatest.{free_more}
use Rattle.sw_margin.proofs.limits.greatest_limit.Goals as goal

pub loop-most-preserved : goal.loop-most-preserved
loop-most-preserved g c = (
  omega (arith, c.loop-most.invariant.0),
  free_more c.args.network.now c.args.flow c.args.own c.loop-most.most c.loop-most.invariant.1 (c.in_ok-is_free_with.ensures.0 c.if-not-branch.false),
)

pub returns : goal.returns
returns g c = record {
  own = c.args.own;
  is_own = c.requires.own;
  low = omega (arith, c.ranges.own.fits);
  high = omega arith;
  free = λ n lt le. c.loop-most.invariant.1 n lt (omega (arith, le, c.loop-most-test.false));
  no_more = λ lt. absurd (omega (arith, lt));
  not_any = c.requires.not_any;
}
