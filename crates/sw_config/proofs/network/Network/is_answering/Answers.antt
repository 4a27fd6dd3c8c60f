use Rattle.std.proofs.Common.{◌<◌, length, arith}
use Rattle.sw_config.specs.Entries.{is_answered_at, reply_flows}
use Rattle.sw_config.proofs.Lists.{in_front}
use Rattle.sw_config.proofs.Passes.{none_more, one_passes}
use Rattle.sw_config.proofs.network.Network.is_answering.Goals as goal

pub returns-then-is_answered_at : goal.returns-then-is_answered_at
returns-then-is_answered_at c =
    let flows = c.args.self.now.flows in
    let lt : c.loop-number.number < length flows = omega (arith, c.loop-number-test.true, c.declared_flows-number-end.ensures.count) in
    let here = in_front flows (reply_flows flows) c.loop-number.number _ lt c.flow.ensures.flow in
    one_passes (is_answered_at c.args.node) flows c.loop-number.number _ c.is_answered_at.result here c.is_answered_at.ensures c.if-is_answered_at.true

pub loop-number-preserved : goal.loop-number-preserved
loop-number-preserved c =
    let flows = c.args.self.now.flows in
    let lt : c.loop-number.number < length flows = omega (arith, c.loop-number-test.true, c.declared_flows-number-end.ensures.count) in
    let here = in_front flows (reply_flows flows) c.loop-number.number _ lt c.flow.ensures.flow in
    none_more (is_answered_at c.args.node) flows c.loop-number.number _ c.is_answered_at.result here c.loop-number.invariant c.is_answered_at.ensures c.if-is_answered_at.false
