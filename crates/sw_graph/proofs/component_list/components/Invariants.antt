use Rattle.sw_graph.specs.Rows.{Leads}
use Rattle.sw_graph.specs.Components.{AreComponentsBelow}
use Rattle.sw_graph.proofs.component_list.components.Given as goal

abbrev pub invariant-loop-c : goal.invariant-loop-c
invariant-loop-c l = AreComponentsBelow (Leads l.successors) l.c l.components.items
