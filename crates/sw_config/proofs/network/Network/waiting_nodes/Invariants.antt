use Rattle.std.proofs.Common.{◌≡◌, map}
use Rattle.std.specs.List.{range_with_len}
use Rattle.sw_config.specs.Limits.{may_make_wait}
use Rattle.sw_config.proofs.network.Network.waiting_nodes.Given as goal

abbrev pub invariant-loop-node : goal.invariant-loop-node
invariant-loop-node l = l.marks.items ≡ map (may_make_wait l.self) (range_with_len 0 l.node)
