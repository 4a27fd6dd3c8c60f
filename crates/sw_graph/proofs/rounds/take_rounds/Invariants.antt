use Rattle.std.proofs.Common.{◌≡◌}
use Rattle.std.specs.Prelude.{length}
use Rattle.std.specs.List.{range_with_len}
use Rattle.sw_graph.specs.Rounds.{AreRounds}
use Rattle.sw_graph.proofs.rounds.take_rounds.Given as goal

abbrev pub invariant-loop-left : goal.invariant-loop-left
invariant-loop-left g l = AreRounds l.predecessors l.round l.levels l.done l.left.items

abbrev pub decreases-loop-left : goal.decreases-loop-left
decreases-loop-left g l = length l.left.items

abbrev pub invariant-loop-member : goal.invariant-loop-member
invariant-loop-member g l = l.left.items ≡ range_with_len 0 l.member
