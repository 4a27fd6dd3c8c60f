use Rattle.std.proofs.Common.{ℕ, ◌<◌, map}
use Rattle.sw_cycle.specs.Cycles.{cause_of, IsCausedAt}
use Rattle.sw_cycle.proofs.check.is_shown.Given as goal

abbrev pub invariant-loop-place : goal.invariant-loop-place
invariant-loop-place l = (k : ℕ) → k < l.place → IsCausedAt l.network l.channels (map cause_of l.causes) k
