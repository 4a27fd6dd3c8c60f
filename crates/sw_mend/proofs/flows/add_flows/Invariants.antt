use Rattle.std.proofs.Common.{◌≡◌, take}
use Rattle.sw_mend.specs.Changes.{by_number, flow_after_all}
use Rattle.sw_mend.proofs.flows.add_flows.Given as goal

abbrev pub invariant-loop-number : goal.invariant-loop-number
invariant-loop-number l = l.built ≡ record l.initial.built { flows = by_number (flow_after_all l.changes) 0 (take l.number l.network.flows) }
