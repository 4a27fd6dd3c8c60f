use Rattle.std.proofs.Common.{◌<◌, arith, length}
use Rattle.sw_mend.proofs.OneMore.{fresh_node, node_built}
use Rattle.sw_mend.proofs.parts.add_nodes.Goals as goal

pub add_node-requires-clause-new_name : goal.add_node-requires-clause-new_name
add_node-requires-clause-new_name c =
    let lt : c.loop-node.node < length c.args.network.now.nodes = omega (arith, c.loop-node-test.true, c.nodes-node-end.ensures.count) in
    fresh_node c.args.network.now _ c.loop-node.node _ c.topology-topology.ensures.valid.parts_named lt c.node_name-name.ensures c.loop-node.invariant

pub loop-node-preserved : goal.loop-node-preserved
loop-node-preserved c =
    let lt : c.loop-node.node < length c.args.network.now.nodes = omega (arith, c.loop-node-test.true, c.nodes-node-end.ensures.count) in
    node_built c.args.network.now.nodes c.loop-node.node _ _ _ _ _ lt c.node_name-name.ensures c.target.ensures.target c.outstanding.ensures.outstanding c.loop-node.invariant c.in_ok-add_node.ensures.ok
