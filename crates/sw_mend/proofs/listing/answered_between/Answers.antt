use Rattle.std.proofs.Common.{◌<◌, arith, length}
use Rattle.sw_config.specs.Entries.{reply_flows}
use Rattle.sw_mend.specs.Changes.{is_answered_between}
use Rattle.sw_topo.proofs.Lists.{in_front}
use Rattle.sw_mend.proofs.OneNumber.{counted, not_counted}
use Rattle.sw_mend.proofs.listing.answered_between.Goals as goal

pub loop-number-preserved-then-not-is_answered_between : goal.loop-number-preserved-then-not-is_answered_between
loop-number-preserved-then-not-is_answered_between c =
    let flows = c.args.network.now.flows in
    let n = c.loop-number.number in
    let lt : n < length flows = omega (arith, c.loop-number-test.true, c.requires) in
    let here = in_front flows (reply_flows flows) n c.flow.result.now lt c.flow.ensures.flow in (
      not_counted (is_answered_between c.args.from c.args.to) flows n c.flow.result.now c.is_answered_between.result c.loop-number.count here c.is_answered_between.ensures
          c.loop-number.invariant.0 c.if-not-is_answered_between.true,
      omega (arith, c.loop-number.invariant.1),
    )

pub loop-number-preserved : goal.loop-number-preserved
loop-number-preserved c =
    let flows = c.args.network.now.flows in
    let n = c.loop-number.number in
    let lt : n < length flows = omega (arith, c.loop-number-test.true, c.requires) in
    let here = in_front flows (reply_flows flows) n c.flow.result.now lt c.flow.ensures.flow in (
      counted (is_answered_between c.args.from c.args.to) flows n c.flow.result.now c.is_answered_between.result c.loop-number.count here c.is_answered_between.ensures
          c.loop-number.invariant.0 c.if-not-is_answered_between.false,
      omega (arith, c.loop-number.invariant.1),
    )
