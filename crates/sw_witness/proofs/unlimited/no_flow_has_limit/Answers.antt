use Rattle.std.proofs.Common.{◌<◌, length, arith}
use Rattle.sw_config.specs.Entries.{reply_flows}
use Rattle.sw_topo.proofs.Lists.{in_front}
use Rattle.sw_witness.proofs.NoLimits.{flow_limited, flow_more, flows_unlimited}
use Rattle.sw_witness.proofs.unlimited.no_flow_has_limit.Goals as goal

pub returns-then-has_limit : goal.returns-then-has_limit
returns-then-has_limit c =
    let flows = c.args.network.now.flows in
    let lt : c.loop-number.number < length flows = omega (arith, c.loop-number-test.true, c.declared_flows-number-end.ensures.count) in
    let here = in_front flows (reply_flows flows) c.loop-number.number _ lt c.flow.ensures.flow in
    flow_limited flows c.loop-number.number _ c.has_limit.result here c.has_limit.ensures c.if-has_limit.true

pub loop-number-preserved : goal.loop-number-preserved
loop-number-preserved c =
    let flows = c.args.network.now.flows in
    let lt : c.loop-number.number < length flows = omega (arith, c.loop-number-test.true, c.declared_flows-number-end.ensures.count) in
    let here = in_front flows (reply_flows flows) c.loop-number.number _ lt c.flow.ensures.flow in
    flow_more flows c.loop-number.number _ c.has_limit.result here c.has_limit.ensures c.if-has_limit.false c.loop-number.invariant

pub returns : goal.returns
returns c = flows_unlimited c.args.network.now.flows c.loop-number.number (omega (arith, c.loop-number-test.false, c.loop-number.auto.number-end, c.declared_flows-number-end.ensures.count)) c.loop-number.invariant
