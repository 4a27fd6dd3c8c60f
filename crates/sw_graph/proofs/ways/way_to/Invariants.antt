use Rattle.std.proofs.Common.{◌<◌, length, reverse, get_or}
use Rattle.sw_graph.proofs.Parents.{Onward}
use Rattle.sw_graph.proofs.ways.way_to.Given as goal

abbrev pub invariant-loop-at : goal.invariant-loop-at
invariant-loop-at g l = record {
  within : l.at < length l.walk.numbers;
  onward : Onward (g.S.Steps.next l.steps) l.goal (get_or l.walk.numbers l.at 0) (reverse l.way.items);
}

abbrev pub decreases-loop-at : goal.decreases-loop-at
decreases-loop-at g l = l.at
