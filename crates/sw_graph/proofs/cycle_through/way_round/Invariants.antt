use Rattle.sw_graph.specs.Rows.{Leads}
use Rattle.sw_graph.proofs.Going.{Going}
use Rattle.sw_graph.proofs.cycle_through.way_round.Given as goal

abbrev pub invariant-loop-done : goal.invariant-loop-done
invariant-loop-done l = Going (Leads l.successors) l.start l.count l.done l.way.items l.now
