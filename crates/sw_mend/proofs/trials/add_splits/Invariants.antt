use Rattle.std.proofs.Common.{map, take}
use Rattle.sw_mend.specs.Changes.{by_number}
use Rattle.sw_mend.specs.Mends.{AreAdded, Frees}
use Rattle.sw_mend.specs.Spared.{AreOfCycles}
use Rattle.sw_mend.specs.Splits.{own_links}
use Rattle.sw_mend.specs.declared.change.Trial.TheVariants.{Split}
use Rattle.sw_mend.proofs.trials.add_splits.Given as goal

abbrev pub invariant-loop-node : goal.invariant-loop-node
invariant-loop-node g l =
    AreOfCycles l.network l.cycles.items
    × AreAdded (Frees l.network) (map Split (by_number (own_links l.network) 0 (take l.node l.network.nodes))) l.initial.mends.items l.mends.items
