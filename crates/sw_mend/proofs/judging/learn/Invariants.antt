use Rattle.sw_mend.specs.Spared.{AreOfCycles}
use Rattle.sw_mend.proofs.judging.learn.Given as goal

abbrev pub invariant-loop-tangle : goal.invariant-loop-tangle
invariant-loop-tangle g l = AreOfCycles l.network l.cycles.items
