use Rattle.std.proofs.Common.{◌≡◌, length, map, take}
use Rattle.sw_mend.specs.Splits.{flow_split}
use Rattle.sw_mend.proofs.moved.add_split_flows.Given as goal

abbrev pub invariant-loop-number : goal.invariant-loop-number
invariant-loop-number l = l.built ≡ record l.initial.built { flows = map (flow_split (length l.network.nodes) l.link) (take l.number l.network.flows) }
