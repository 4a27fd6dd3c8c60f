use Rattle.std.proofs.Common.{◌<◌, ◌-◌, drop, length}
use Rattle.sw_graph.specs.Walking.{times}
use Rattle.sw_graph.proofs.cycle.since.Given as goal

abbrev pub invariant-loop-from : goal.invariant-loop-from
invariant-loop-from l = 0 < times (drop l.from l.path) l.again

abbrev pub decreases-loop-from : goal.decreases-loop-from
decreases-loop-from l = length l.path - l.from
