use Rattle.std.proofs.Common.{◌≡◌, take}
use Rattle.sw_config.specs.Entries.{empty}
use Rattle.sw_mend.proofs.parts.add_nodes.Given as goal

abbrev pub invariant-loop-node : goal.invariant-loop-node
invariant-loop-node l = l.builder ≡ record empty { nodes = take l.node l.network.nodes }
