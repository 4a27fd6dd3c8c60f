use Rattle.sw_mend.specs.Spared.{AreOfCycles}
use Rattle.sw_mend.proofs.judging.first_cycles.Given as goal

abbrev pub invariant-loop : goal.invariant-loop
invariant-loop g l = AreOfCycles l.network l.cycles.items
