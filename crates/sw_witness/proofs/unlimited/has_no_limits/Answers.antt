use Rattle.sw_witness.proofs.NoLimits.{both_unlimited, nodes_limited}
use Rattle.sw_witness.proofs.unlimited.has_no_limits.Goals as goal

pub returns-then-no_node_has_limit : goal.returns-then-no_node_has_limit
returns-then-no_node_has_limit c = both_unlimited c.args.network.now c.no_node_has_limit.result c.no_flow_has_limit.result c.if-no_node_has_limit.true c.no_node_has_limit.ensures c.no_flow_has_limit.ensures

pub returns-else-no_node_has_limit : goal.returns-else-no_node_has_limit
returns-else-no_node_has_limit c = nodes_limited c.args.network.now c.no_node_has_limit.result c.if-no_node_has_limit.false c.no_node_has_limit.ensures
