use Rattle.sw_graph.specs.Rows.{IsGraph}
use Rattle.test_runs.proofs.parts.orders.add_steps.Given as goal

abbrev pub invariant-loop-from : goal.invariant-loop-from
invariant-loop-from l = IsGraph l.rows
