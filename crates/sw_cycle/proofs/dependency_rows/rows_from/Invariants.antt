use Rattle.sw_cycle.specs.Rows.{AreRows}
use Rattle.sw_cycle.proofs.dependency_rows.rows_from.Given as goal

abbrev pub invariant-loop-channel : goal.invariant-loop-channel
invariant-loop-channel l = AreRows l.network l.sets l.marks.items l.channel l.rows.items
