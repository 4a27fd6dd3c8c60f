use Rattle.std.proofs.Common.{filter, not}
use Rattle.std.specs.List.{AllZip, range_with_len}
use Rattle.sw_config.specs.Limits.{may_make_wait}
use Rattle.sw_margin.specs.Bends.{IsStall}
use Rattle.sw_margin.proofs.nodes.stalls.Given as goal

abbrev pub invariant-loop-node : goal.invariant-loop-node
invariant-loop-node g l = AllZip (IsStall l.network) (filter (λ n. not (may_make_wait l.network n)) (range_with_len 0 l.node)) l.told.items
