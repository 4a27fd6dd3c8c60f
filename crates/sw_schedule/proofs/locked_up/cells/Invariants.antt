use Rattle.std.proofs.Common.{◌≡◌, ◌++◌, length, map}
use Rattle.std.specs.List.{All, range_with_len}
use Rattle.sw_net.specs.Places.{IsIn}
use Rattle.sw_net.specs.CellId.TheVariants.{Node, Switch}
use Rattle.sw_schedule.proofs.locked_up.cells.Given as goal

abbrev pub invariant-loop-n : goal.invariant-loop-n
invariant-loop-n l = record {
  cells : l.all.items ≡ map Node (range_with_len 0 l.n);
  inside : All (IsIn l.network) l.all.items;
}

abbrev pub invariant-loop-w : goal.invariant-loop-w
invariant-loop-w l = record {
  cells : l.all.items ≡ map Node (range_with_len 0 (length l.network.nodes)) ++ map Switch (range_with_len 0 l.w);
  inside : All (IsIn l.network) l.all.items;
}
