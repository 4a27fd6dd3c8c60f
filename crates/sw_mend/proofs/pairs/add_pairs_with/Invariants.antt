use Rattle.std.proofs.Common.{take}
use Rattle.sw_mend.specs.Spared.{AreOfCycles}
use Rattle.sw_mend.proofs.Paired.{AreAdded}
use Rattle.sw_mend.proofs.pairs.add_pairs_with.Given as goal

abbrev pub invariant-loop-second : goal.invariant-loop-second
invariant-loop-second g l =
    AreOfCycles l.network l.cycles.items × AreAdded l.network l.first (take l.second-index l.others) l.initial.pairs.items l.pairs.items
