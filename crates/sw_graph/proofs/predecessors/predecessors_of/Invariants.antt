use Rattle.sw_graph.specs.Reversing.{AreBegun}
use Rattle.sw_graph.proofs.predecessors.predecessors_of.Given as goal

abbrev pub invariant-loop-c : goal.invariant-loop-c
invariant-loop-c l = AreBegun l.successors l.c l.predecessors.items
