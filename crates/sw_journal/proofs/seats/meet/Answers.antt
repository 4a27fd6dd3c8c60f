use Rattle.std.proofs.Common.{ap, ◌∙◌}
use Rattle.atomic_table.specs.Table.{Me}
use Rattle.sw_journal.specs.declared.cell_table.View.{View}
use Rattle.sw_journal.specs.declared.cell_table.SeatChange.{SeatChange}
use Rattle.sw_journal.proofs.Moves.{hands, takes, checks_by}
use Rattle.sw_journal.proofs.seats.meet.Goals as goal

pub split_seat-note-requires : goal.split_seat-note-requires
split_seat-note-requires c = (c.requires.theirs, c.requires.table, hands _ _)

pub join_seat-requires : goal.join_seat-requires
join_seat-requires c =
    let n = c.split_seat-note.ensures in
    (c.requires.seat.0, n.3 ∙ c.requires.theirs, ap (λ (m : Me SeatChange View). m.1) n.4, c.requires.table, takes _ _ _ _)

pub load-requires : goal.load-requires
load-requires c =
    let j = c.join_seat.ensures in
    (j.0 ∙ c.requires.seat.0, c.requires.table, checks_by _ _ _ (ap (λ (m : Me SeatChange View). m.0.keeps) j.2 ∙ c.requires.seat.1))
