use Rattle.std.proofs.Common.{take}
use Rattle.sw_graph.specs.Walking.{IsLeastOf}
use Rattle.sw_graph.proofs.cycle.least_before.Given as goal

abbrev pub invariant-loop-other : goal.invariant-loop-other
invariant-loop-other l = IsLeastOf (take l.other-index l.other-items) l.done l.least
