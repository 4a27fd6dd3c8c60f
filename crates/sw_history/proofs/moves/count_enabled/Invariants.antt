use Rattle.std.proofs.Common.{◌≤◌}
use Rattle.sw_history.proofs.moves.count_enabled.Given as goal
use Rattle.sw_history.specs.Enabled.{CanStepBelow}

abbrev pub invariant-loop-number : goal.invariant-loop-number
invariant-loop-number g l = (l.count ≤ l.number) × CanStepBelow l.net l.number l.count
