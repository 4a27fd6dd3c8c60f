use Rattle.std.proofs.Common.{drop}
use Rattle.sw_mend.specs.Spared.{AreOfCycles}
use Rattle.sw_mend.proofs.Paired.{AreTold}
use Rattle.sw_mend.proofs.pairs.pair_mends.Given as goal

abbrev pub invariant-loop-number : goal.invariant-loop-number
invariant-loop-number g l = AreOfCycles l.network l.cycles.items × AreTold l.network l.first-items (drop l.number l.first-items) l.pairs.items
