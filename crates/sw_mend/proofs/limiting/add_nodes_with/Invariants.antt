use Rattle.std.proofs.Common.{◌≡◌, take}
use Rattle.sw_config.specs.Entries.{empty}
use Rattle.sw_mend.specs.Changes.{by_number}
use Rattle.sw_mend.specs.Limitings.{node_with}
use Rattle.sw_mend.proofs.limiting.add_nodes_with.Given as goal

abbrev pub invariant-loop-node : goal.invariant-loop-node
invariant-loop-node l = l.builder ≡ record empty { nodes = by_number (node_with l.slots) 0 (take l.node l.network.nodes) }
