use Rattle.std.proofs.Common.{◌≡◌, ◌<◌, ◌∙◌, List, ap, arith, length, refl, subst, sym}
use Rattle.sw_config.specs.Entries.{Declaration, FlowEntry, NodeEntry, reply_flows}
use Rattle.sw_config.specs.Valid.{IsTarget}
use Rattle.sw_mend.proofs.LimitedFlows.{valid_limited}
use Rattle.sw_mend.proofs.WithOutstanding.{few_outstanding, fresh_outstanding, outstanding_more}
use Rattle.sw_mend.proofs.outstanding.add_flows_with.Goals as goal
use Rattle.sw_topo.proofs.Lists.{in_front}

pub add_flow-requires-clause-few : goal.add_flow-requires-clause-few
add_flow-requires-clause-few c =
    let flows = c.args.network.now.flows in
    let lt : c.loop-number.number < length flows = omega (arith, c.loop-number-test.true, c.declared_flows-number-end.ensures.count) in
    few_outstanding c.args.changed c.args.most flows _ c.loop-number.number lt c.topology-topology.ensures.valid.few_flows (ap (λ (e : Declaration). e.flows) c.loop-number.invariant)

pub add_flow-requires-clause-new_name : goal.add_flow-requires-clause-new_name
add_flow-requires-clause-new_name c =
    let flows = c.args.network.now.flows in
    let lt : c.loop-number.number < length flows = omega (arith, c.loop-number-test.true, c.declared_flows-number-end.ensures.count) in
    let here = in_front flows (reply_flows flows) c.loop-number.number _ lt c.flow.ensures.flow in
    rw c.in_ok-kept.ensures
    (fresh_outstanding c.args.changed c.args.most flows c.loop-number.number _ _ c.topology-topology.ensures.valid.flows_named here (ap (λ (e : Declaration). e.flows) c.loop-number.invariant))

pub add_flow-requires-clause-flow : goal.add_flow-requires-clause-flow
add_flow-requires-clause-flow c =
    let nodes : c.loop-number.built.nodes ≡ c.args.network.now.nodes = ap (λ (e : Declaration). e.nodes) c.loop-number.invariant ∙ c.requires.nodes in
    valid_limited c.args.network.now.nodes c.loop-number.built.nodes c.args.most _ _ _ c.requires.most
    (λ n is. subst (λ (l : List NodeEntry). IsTarget l n) (sym nodes) is) (ap length nodes) c.flow.ensures.valid c.in_ok-kept.ensures

pub loop-number-preserved : goal.loop-number-preserved
loop-number-preserved c =
    let flows = c.args.network.now.flows in
    let lt : c.loop-number.number < length flows = omega (arith, c.loop-number-test.true, c.declared_flows-number-end.ensures.count) in
    let here = in_front flows (reply_flows flows) c.loop-number.number _ lt c.flow.ensures.flow in
    outstanding_more c.args.changed c.args.most flows c.loop-number.number _ _ _ c.args.built.now _ _ here refl c.in_ok-kept.ensures c.loop-number.invariant c.in_ok-add_flow.ensures.ok
