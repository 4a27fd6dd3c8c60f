use Rattle.std.proofs.Common.{take}
use Rattle.sw_graph.specs.Rounds.{AllDone}
use Rattle.sw_graph.proofs.round_workers.all_done.Given as goal

abbrev pub invariant-loop-c : goal.invariant-loop-c
invariant-loop-c l = AllDone l.done (take l.c-index l.members)
