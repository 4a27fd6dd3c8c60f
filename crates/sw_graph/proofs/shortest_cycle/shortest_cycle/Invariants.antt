use Rattle.sw_graph.specs.Rows.{Leads}
use Rattle.sw_graph.proofs.Bettering.{Bettering}
use Rattle.sw_graph.proofs.shortest_cycle.shortest_cycle.Given as goal

abbrev pub invariant-loop-c : goal.invariant-loop-c
invariant-loop-c l = Bettering (Leads l.rows) l.members l.c-index l.best
