use Rattle.std.proofs.Common.{length, ◌-◌, ◌≤◌}
use Rattle.sw_cert.proofs.parts.parts_of.Given as goal

abbrev pub invariant-loop-end : goal.invariant-loop-end
invariant-loop-end l = l.end ≤ length l.lists

abbrev pub decreases-loop-end : goal.decreases-loop-end
decreases-loop-end l = length l.lists - l.end
