use Rattle.std.proofs.Common.{arith}
use Rattle.std.proofs.lemmas.Bool.{both_ways}
use Rattle.sw_arb.specs.PortCounts.{ports_below-member, ports_below-other}
use Rattle.sw_arb.proofs.count.ports_below.Goals as goal
use Rattle.sw_arb.proofs.count.ports_below.Goals.{then-has, else-has}

pub loop-below-preserved : goal.loop-below-preserved
loop-below-preserved c = elim c.if-has.branch [
  | then-has w ↦ record {
    counted = omega (arith, ports_below-member c.args.ports c.loop-below.below (c.has.ensures.0 w.if-has.true));
    most = omega arith;
  }
  | else-has w ↦ record {
    counted = omega (arith, ports_below-other c.args.ports c.loop-below.below (λ set. both_ways c.has.result w.if-has.false (c.has.ensures.1 set)));
    most = omega arith;
  }
]
