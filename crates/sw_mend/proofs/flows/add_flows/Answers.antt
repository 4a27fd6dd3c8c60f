use Rattle.std.proofs.Common.{◌<◌, ap, arith, length}
use Rattle.sw_config.specs.Entries.{Declaration, reply_flows}
use Rattle.sw_mend.proofs.Fresh.{few_flows, fresh_flow}
use Rattle.sw_mend.proofs.OneMore.{flow_built, flow_passed}
use Rattle.sw_mend.proofs.flows.add_flows.Goals as goal
use Rattle.sw_topo.proofs.Lists.{in_front}

pub add_flow-requires-clause-few : goal.add_flow-requires-clause-few
add_flow-requires-clause-few c =
    let flows = c.args.network.now.flows in
    let lt : c.loop-number.number < length flows = omega (arith, c.loop-number-test.true, c.declared_flows-number-end.ensures.count) in
    few_flows c.args.changes.now flows _ c.loop-number.number lt c.topology-topology.ensures.valid.few_flows (ap (λ (e : Declaration). e.flows) c.loop-number.invariant)

pub add_flow-requires-clause-new_name : goal.add_flow-requires-clause-new_name
add_flow-requires-clause-new_name c =
    let flows = c.args.network.now.flows in
    let lt : c.loop-number.number < length flows = omega (arith, c.loop-number-test.true, c.declared_flows-number-end.ensures.count) in
    let here = in_front flows (reply_flows flows) c.loop-number.number _ lt c.flow-flow.ensures.flow in
    rw c.in_ok-kept.ensures (fresh_flow c.args.changes.now flows c.loop-number.number _ _ c.topology-topology.ensures.valid.flows_named here (ap (λ (e : Declaration). e.flows) c.loop-number.invariant))

pub loop-number-preserved : goal.loop-number-preserved
loop-number-preserved c =
    let flows = c.args.network.now.flows in
    let lt : c.loop-number.number < length flows = omega (arith, c.loop-number-test.true, c.declared_flows-number-end.ensures.count) in
    let here = in_front flows (reply_flows flows) c.loop-number.number _ lt c.flow-flow.ensures.flow in
    flow_built c.args.changes.now flows c.loop-number.number _ _ c.args.built.now _ _ _ c.in-Some.is_unanswered here c.loses_reply_alone.ensures c.in-Some.is c.in_ok-kept.ensures c.loop-number.invariant
    c.in_ok-add_flow.ensures.ok

pub loop-number-preserved-in_default : goal.loop-number-preserved-in_default
loop-number-preserved-in_default c =
    let flows = c.args.network.now.flows in
    let lt : c.loop-number.number < length flows = omega (arith, c.loop-number-test.true, c.declared_flows-number-end.ensures.count) in
    let here = in_front flows (reply_flows flows) c.loop-number.number _ lt c.flow-flow.ensures.flow in
    flow_passed c.args.changes.now flows c.loop-number.number _ c.args.built.now _ _ here c.loses_reply_alone.ensures c.in_default.is c.loop-number.invariant
