use Rattle.std.proofs.Common.{not}
use Rattle.sw_graph.specs.Rounds.{is_marked}
use Rattle.sw_graph.proofs.Loops.{Moving}
use Rattle.sw_graph.proofs.rounds.drop_done.Given as goal

abbrev pub invariant-loop-at : goal.invariant-loop-at
invariant-loop-at l = Moving (λ c. not (is_marked l.done c)) l.fn.left.items l.at l.kept l.left.items
