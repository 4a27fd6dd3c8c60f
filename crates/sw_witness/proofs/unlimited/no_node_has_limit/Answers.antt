use Rattle.std.proofs.Common.{arith, sym, ◌∙◌}
use Rattle.sw_witness.proofs.NoLimits.{node_limited, node_more, nodes_unlimited}
use Rattle.sw_witness.proofs.unlimited.no_node_has_limit.Goals as goal

pub returns-then-is_some : goal.returns-then-is_some
returns-then-is_some c = node_limited c.args.network.now.nodes c.loop-node.node c.outstanding.result c.outstanding.ensures.outstanding (sym c.is_some.ensures ∙ c.if-is_some.true)

pub loop-node-preserved : goal.loop-node-preserved
loop-node-preserved c = node_more c.args.network.now.nodes c.loop-node.node c.outstanding.result c.outstanding.ensures.outstanding (sym c.is_some.ensures ∙ c.if-is_some.false) c.loop-node.invariant

pub returns : goal.returns
returns c = nodes_unlimited c.args.network.now.nodes c.loop-node.node (omega (arith, c.loop-node-test.false, c.loop-node.auto.node-end, c.nodes-node-end.ensures.count)) c.loop-node.invariant
