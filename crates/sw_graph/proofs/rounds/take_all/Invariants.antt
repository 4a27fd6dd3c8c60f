use Rattle.std.proofs.Common.{take}
use Rattle.sw_graph.specs.Rounds.{AreTaken}
use Rattle.sw_graph.proofs.rounds.take_all.Given as goal

abbrev pub invariant-loop-c : goal.invariant-loop-c
invariant-loop-c l = AreTaken l.round (take l.c-index l.members) l.fn.levels l.levels l.fn.done l.done
