use Rattle.std.proofs.Common.{◌≤◌}
use Rattle.sw_history.proofs.moves.nth_enabled.Given as goal
use Rattle.sw_history.specs.Enabled.{CanStepBelow}

abbrev pub invariant-loop-number : goal.invariant-loop-number
invariant-loop-number g l = (l.before ≤ l.index) × (l.before ≤ l.number) × CanStepBelow l.net l.number l.before
