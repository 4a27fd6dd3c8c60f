use Rattle.sw_witness.proofs.NoLimits.{NoneOfNodes}
use Rattle.sw_witness.proofs.unlimited.no_node_has_limit.Given as goal

abbrev pub invariant-loop-node : goal.invariant-loop-node
invariant-loop-node l = NoneOfNodes l.network.nodes l.node
