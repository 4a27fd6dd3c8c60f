use Rattle.std.proofs.Common.{◌<◌, arith, length, subst}
use Rattle.std.specs.Prelude.{IfSome}
use Rattle.sw_rmap.specs.Config.{IsTargetConfig}
use Rattle.sw_mend.proofs.MoreSlots.{few_nodes, new_node, node_built, still_valid}
use Rattle.sw_mend.proofs.limiting.add_nodes_with.Goals as goal

pub add_node-requires-clause-few : goal.add_node-requires-clause-few
add_node-requires-clause-few c =
    let lt : c.loop-node.node < length c.args.network.now.nodes = omega (arith, c.loop-node-test.true, c.nodes-node-end.ensures.count) in
    few_nodes c.args.slots.now c.args.network.now.nodes _ c.loop-node.node lt (omega (arith, c.nodes-node-end.ensures.count, c.nodes-node-end.ensures.few)) c.loop-node.invariant

pub add_node-requires-clause-new_name : goal.add_node-requires-clause-new_name
add_node-requires-clause-new_name c =
    let lt : c.loop-node.node < length c.args.network.now.nodes = omega (arith, c.loop-node-test.true, c.nodes-node-end.ensures.count) in
    new_node c.args.slots.now c.args.network.now _ c.loop-node.node _ c.topology-topology.ensures.valid.parts_named lt c.node_name-name.ensures c.loop-node.invariant

pub add_node-requires-clause-target : goal.add_node-requires-clause-target
add_node-requires-clause-target c = rw c.target_with-target.ensures (still_valid c.args.slots.now c.loop-node.node _ c.requires.slots c.target.ensures.valid)

pub loop-node-preserved : goal.loop-node-preserved
loop-node-preserved c =
    let lt : c.loop-node.node < length c.args.network.now.nodes = omega (arith, c.loop-node-test.true, c.nodes-node-end.ensures.count) in
    node_built c.args.slots.now c.args.network.now.nodes c.loop-node.node _ _ _ _ _ _ lt c.node_name-name.ensures c.target.ensures.target c.target_with-target.ensures c.outstanding.ensures.outstanding
    c.loop-node.invariant c.in_ok-add_node.ensures.ok
