use Rattle.std.proofs.Common.{map, take}
use Rattle.sw_mend.specs.Mends.{AreAdded, Frees}
use Rattle.sw_mend.specs.Spared.{AreOfCycles}
use Rattle.sw_mend.specs.declared.change.Trial.TheVariants.{Without}
use Rattle.sw_mend.proofs.trials.add_removals.Given as goal

abbrev pub invariant-loop-number : goal.invariant-loop-number
invariant-loop-number g l =
    AreOfCycles l.network l.cycles.items × AreAdded (Frees l.network) (map Without (take l.number l.change-items)) l.initial.mends.items l.mends.items
