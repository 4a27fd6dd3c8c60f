use Rattle.std.proofs.Common.{filter, is_some}
use Rattle.std.specs.List.{AllZip, range_with_len}
use Rattle.sw_margin.specs.FlowLimits.{IsFlowLimit, own_limit}
use Rattle.sw_margin.proofs.limits.flow_limits.Given as goal

abbrev pub invariant-loop-flow : goal.invariant-loop-flow
invariant-loop-flow g l = AllZip (IsFlowLimit l.network) (filter (λ flow. is_some (own_limit l.network flow)) (range_with_len 0 l.flow)) l.told.items
