use Rattle.std.proofs.Common.{◌+◌, ◌<◌, ◌∙◌, ap, arith, length, map, take}
use Rattle.sw_config.specs.Entries.{Declaration, reply_flows}
use Rattle.sw_mend.specs.Splits.{flow_split}
use Rattle.sw_mend.proofs.MovedFlows.{few_moved, fresh_moved, moved_more, valid_moved}
use Rattle.sw_mend.proofs.moved.add_split_flows.Goals as goal
use Rattle.sw_topo.proofs.Lists.{in_front}

pub add_flow-requires-clause-few : goal.add_flow-requires-clause-few
add_flow-requires-clause-few c =
    let flows = c.args.network.now.flows in
    let lt : c.loop-number.number < length flows = omega (arith, c.loop-number-test.true, c.declared_flows-number-end.ensures.count) in
    few_moved (length c.args.network.now.nodes) c.args.link.now flows _ c.loop-number.number lt c.topology-topology.ensures.valid.few_flows
    (ap (λ (e : Declaration). e.flows) c.loop-number.invariant)

pub add_flow-requires-clause-new_name : goal.add_flow-requires-clause-new_name
add_flow-requires-clause-new_name c =
    let flows = c.args.network.now.flows in
    let lt : c.loop-number.number < length flows = omega (arith, c.loop-number-test.true, c.declared_flows-number-end.ensures.count) in
    let here = in_front flows (reply_flows flows) c.loop-number.number _ lt c.flow.ensures.flow in
    rw (c.in_ok-moved.ensures, c.nodes-node.ensures.count)
    (fresh_moved (length c.args.network.now.nodes) c.args.link.now flows c.loop-number.number _ _ c.topology-topology.ensures.valid.flows_named here
    (ap (λ (e : Declaration). e.flows) c.loop-number.invariant))

pub add_flow-requires-clause-flow : goal.add_flow-requires-clause-flow
add_flow-requires-clause-flow c =
    valid_moved c.args.network.now.nodes c.args.link.now c.flow.result.now c.requires.node c.flow.ensures.valid c.loop-number.built.nodes c.in_ok-moved.moved
    (ap (λ (e : Declaration). e.nodes) c.loop-number.invariant ∙ c.requires.nodes) (rw (← c.nodes-node.ensures.count) c.in_ok-moved.ensures)

pub loop-number-preserved : goal.loop-number-preserved
loop-number-preserved c =
    let flows = c.args.network.now.flows in
    let lt : c.loop-number.number < length flows = omega (arith, c.loop-number-test.true, c.declared_flows-number-end.ensures.count) in
    let here = in_front flows (reply_flows flows) c.loop-number.number _ lt c.flow.ensures.flow in
    moved_more (length c.args.network.now.nodes) c.args.link.now flows c.loop-number.number _ _ _ _ here (rw (← c.nodes-node.ensures.count) c.in_ok-moved.ensures)
    (ap (λ (e : Declaration). e.flows) c.loop-number.invariant) c.in_ok-add_flow.ensures.ok
    ∙ ap (λ (e : Declaration). record e { flows = map (flow_split (length c.args.network.now.nodes) c.args.link.now) (take (c.loop-number.number + 1) flows) }) c.loop-number.invariant
