use Rattle.std.proofs.Common.{length, ◌≡◌}
use Rattle.sw_run.proofs.locks.lock_each.Given as goal

abbrev pub invariant-loop-cell : goal.invariant-loop-cell
invariant-loop-cell g l = length l.all.items ≡ length l.yielded
