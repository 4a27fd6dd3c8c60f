use Rattle.std.proofs.Common.{ℕ, ◌<◌}
use Rattle.sw_search.specs.Lists.{IsRouted}
use Rattle.sw_search.proofs.misrouted_way.first_misrouted.Given as goal

abbrev pub invariant-loop-flow : goal.invariant-loop-flow
invariant-loop-flow l = (j : ℕ) → j < l.flow → IsRouted l.network j
