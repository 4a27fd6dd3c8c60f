use Rattle.std.proofs.Common.{map, length, ◌++◌, ◌≡◌}
use Rattle.std.specs.List.{range_with_len}
use Rattle.sw_cell.specs.declared.cell.CellId.TheVariants.{Switch}
use Rattle.sw_journal.proofs.opening.open_all.Given as goal
use Rattle.sw_journal.specs.Opening.{AreOpened, node_ids}

abbrev pub invariant-loop-n : goal.invariant-loop-n
invariant-loop-n l = record {
  seat : l.seat.table_id ≡ l.fn.seat.table_id;
  opened : AreOpened l.net.declared l.table.shared.table_id (node_ids l.n) l.cells.items l.seat.me;
}

abbrev pub invariant-loop-w : goal.invariant-loop-w
invariant-loop-w l = record {
  seat : l.seat.table_id ≡ l.fn.seat.table_id;
  opened : AreOpened l.net.declared l.table.shared.table_id (node_ids (length l.net.declared.nodes) ++ map (λ k. Switch k) (range_with_len 0 l.w)) l.cells.items l.seat.me;
}
