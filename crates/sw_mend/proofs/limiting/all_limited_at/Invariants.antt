use Rattle.std.proofs.Common.{◌≡◌, true, take}
use Rattle.std.specs.Prelude.{◌==◌, ◌||◌, not}
use Rattle.std.specs.List.{list_all}
use Rattle.sw_config.specs.Entries.{FlowEntry, all_flows}
use Rattle.sw_config.specs.Limits.{is_limited}
use Rattle.sw_mend.proofs.limiting.all_limited_at.Given as goal

abbrev pub invariant-loop-flow : goal.invariant-loop-flow
invariant-loop-flow l = list_all (λ (f : FlowEntry). not (f.to == l.node) || is_limited l.network.nodes f) (take l.flow (all_flows l.network)) ≡ true
