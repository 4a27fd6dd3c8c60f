use Rattle.std.proofs.Common.{take}
use Rattle.sw_graph.specs.Reversing.{AreAdded}
use Rattle.sw_graph.proofs.predecessors.add_to_each.Given as goal

abbrev pub invariant-loop-d : goal.invariant-loop-d
invariant-loop-d l = AreAdded (take l.d-index l.members) l.c l.fn.rows l.rows
