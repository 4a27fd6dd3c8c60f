use Rattle.std.proofs.Common.{not}
use Rattle.std.specs.Prelude.{count_by}
use Rattle.sw_graph.proofs.Backs.{Walking}
use Rattle.sw_graph.proofs.cycle.walk_back.Given as goal

abbrev pub invariant-loop-seen : goal.invariant-loop-seen
invariant-loop-seen l = Walking l.predecessors l.done l.start l.seen.items l.path.items l.now

abbrev pub decreases-loop-seen : goal.decreases-loop-seen
decreases-loop-seen l = count_by not l.seen.items
