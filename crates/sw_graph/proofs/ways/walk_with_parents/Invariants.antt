use Rattle.std.proofs.Common.{◌≡◌, ◌-◌, ◌<◌, length, get_or}
use Rattle.sw_graph.specs.Parents.{AreParents}
use Rattle.sw_graph.proofs.Walking.{Walks}
use Rattle.sw_graph.proofs.ways.walk_with_parents.Given as goal

abbrev pub invariant-loop-done : goal.invariant-loop-done
invariant-loop-done g l = record {
  bound : l.walk.bound ≡ l.fn.walk.bound;
  walks : Walks (g.S.Steps.next l.steps) l.start l.walk.numbers l.done;
  parents : AreParents (g.S.Steps.next l.steps) l.walk.numbers l.parents.items;
  first : (0 < length l.walk.numbers) × (get_or l.walk.numbers 0 0 ≡ l.start);
}

abbrev pub decreases-loop-done : goal.decreases-loop-done
decreases-loop-done g l = l.walk.bound - l.done
