use Rattle.std.proofs.Common.{◌≡◌, map, take}
use Rattle.sw_mend.specs.Limitings.{flow_limited}
use Rattle.sw_mend.proofs.limiting.add_limited_flows.Given as goal

abbrev pub invariant-loop-number : goal.invariant-loop-number
invariant-loop-number l = l.built ≡ record l.initial.built { flows = map (flow_limited l.network.nodes l.most) (take l.number l.network.flows) }
