use Rattle.sw_journal.proofs.Moves.{changes_by}
use Rattle.sw_journal.proofs.seats.tell.Goals as goal

pub compare_exchange_with-requires : goal.compare_exchange_with-requires
compare_exchange_with-requires c = (c.requires.seat.0, c.requires.table, changes_by _ _ _ c.args.at c.args.numbers c.requires.seat.1 c.requires.seat.2)
