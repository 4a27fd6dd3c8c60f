use Rattle.std.proofs.Common.{◌≡◌, ◌<◌, ◌∙◌, ap, arith, length, map, take, ◌+◌}
use Rattle.std.specs.List.{list_any}
use Rattle.std.specs.Str.{bytes_eq}
use Rattle.sw_config.specs.Entries.{Declaration, FlowEntry, all_flows, flow_names, reply_flows}
use Rattle.sw_mend.specs.Limitings.{flow_limited}
use Rattle.sw_mend.proofs.LimitedFlows.{fresh_limited, limited_more, same_flow}
use Rattle.sw_mend.proofs.limiting.add_limited_flows.Goals as goal
use Rattle.sw_topo.proofs.Lists.{in_front}

pub add_flow-requires-clause-new_name : goal.add_flow-requires-clause-new_name
add_flow-requires-clause-new_name c =
    let d = c.args.network.now in
    let lt : c.loop-number.number < length d.flows = omega (arith, c.loop-number-test.true, c.declared_flows-number-end.ensures.count) in
    let here = in_front d.flows (reply_flows d.flows) c.loop-number.number _ lt c.flow.ensures.flow in
    let made = same_flow d.nodes c.args.most (all_flows d) c.loop-number.number _ c.in_ok-flow.flow _ c.flow.ensures.flow c.is_limited-is_limited.ensures c.in_ok-flow.ensures in
    ap (λ (f : FlowEntry). list_any (bytes_eq f.name) (flow_names c.loop-number.built.flows)) made
    ∙ fresh_limited d.nodes c.args.most d.flows c.loop-number.number _ c.loop-number.built.flows c.topology-topology.ensures.valid.flows_named here (ap (λ (e : Declaration). e.flows) c.loop-number.invariant)

pub loop-number-preserved : goal.loop-number-preserved
loop-number-preserved c =
    let d = c.args.network.now in
    let lt : c.loop-number.number < length d.flows = omega (arith, c.loop-number-test.true, c.declared_flows-number-end.ensures.count) in
    let here = in_front d.flows (reply_flows d.flows) c.loop-number.number _ lt c.flow.ensures.flow in
    let made = same_flow d.nodes c.args.most (all_flows d) c.loop-number.number _ c.in_ok-flow.flow _ c.flow.ensures.flow c.is_limited-is_limited.ensures c.in_ok-flow.ensures in
    limited_more d.nodes c.args.most d.flows c.loop-number.number _ c.in_ok-flow.flow c.loop-number.built c.add_flow.new.self here made (ap (λ (e : Declaration). e.flows) c.loop-number.invariant)
    c.in_ok-add_flow.ensures.ok
    ∙ ap (λ (e : Declaration). record e { flows = map (flow_limited d.nodes c.args.most) (take (c.loop-number.number + 1) d.flows) }) c.loop-number.invariant
