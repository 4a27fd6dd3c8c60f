use Rattle.std.specs.Prelude.{map}
use Rattle.sw_run.specs.Ends.{AreOutBy}
use Rattle.sw_run.proofs.run_journal.add_came_out.Given as goal

abbrev pub invariant-loop-node : goal.invariant-loop-node
invariant-loop-node l = AreOutBy l.journal l.node (map (λ packets. packets.items) l.all.items)
