use Rattle.sw_journal.proofs.Moves.{hands}
use Rattle.sw_journal.proofs.seats.part.Goals as goal

pub split_seat-requires : goal.split_seat-requires
split_seat-requires c = (c.requires.seat, c.requires.table, hands _ _)
