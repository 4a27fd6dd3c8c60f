use Rattle.std.proofs.Common.{◌≡◌, take}
use Rattle.sw_mend.specs.Changes.{by_number}
use Rattle.sw_mend.specs.Outstanding.{flow_with}
use Rattle.sw_mend.proofs.outstanding.add_flows_with.Given as goal

abbrev pub invariant-loop-number : goal.invariant-loop-number
invariant-loop-number l = l.built ≡ record l.initial.built { flows = by_number (flow_with l.changed l.most) 0 (take l.number l.network.flows) }
