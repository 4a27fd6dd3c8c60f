use Rattle.sw_witness.proofs.NoLimits.{NoneOfFlows}
use Rattle.sw_witness.proofs.unlimited.no_flow_has_limit.Given as goal

abbrev pub invariant-loop-number : goal.invariant-loop-number
invariant-loop-number l = NoneOfFlows l.network.flows l.number
