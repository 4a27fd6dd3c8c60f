use Rattle.std.proofs.Common.{◌≡◌, take}
use Rattle.sw_journal.proofs.seats.grow.Given as goal
use Rattle.sw_journal.specs.Views.{grown}

abbrev pub invariant-loop-end : goal.invariant-loop-end
invariant-loop-end l = record {
  name : l.seat.table_id ≡ l.fn.seat.table_id;
  seat : l.seat.me ≡ (grown l.fn.seat.me.0 (record { id = l.fn.id; ends = take l.end-index l.ends }), l.fn.seat.me.1);
}
