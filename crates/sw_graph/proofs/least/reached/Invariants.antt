use Rattle.std.proofs.Common.{◌≡◌, ◌-◌}
use Rattle.sw_graph.proofs.Walking.{Walks}
use Rattle.sw_graph.proofs.least.reached.Given as goal

abbrev pub invariant-loop-done : goal.invariant-loop-done
invariant-loop-done g l = record {
  bound : l.walk.bound ≡ l.bound;
  walks : Walks (g.S.Steps.next l.steps) l.start l.walk.numbers l.done;
}

abbrev pub decreases-loop-done : goal.decreases-loop-done
decreases-loop-done g l = l.bound - l.done
