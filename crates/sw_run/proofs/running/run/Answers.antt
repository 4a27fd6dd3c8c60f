use Rattle.std.proofs.Common.{sym, ◌∙◌}
use Rattle.sw_cell.proofs.Network.{channels_are}
use Rattle.sw_run.proofs.Named.{all_named}
use Rattle.sw_run.proofs.Noted.{new_notes}
use Rattle.sw_run.proofs.running.run.Goals as goal

pub run_named-requires-clause-cells : goal.run_named-requires-clause-cells
run_named-requires-clause-cells g c κs within =
    all_named c.args.network.now c.in_ok-journal.journal.name c.in_ok-journal.cells.items c.in_ok-journal.ensures.cells

pub run_named-requires-clause-notes : goal.run_named-requires-clause-notes
run_named-requires-clause-notes g c κs within =
    let noted = c.in_ok-notes.ensures in
    new_notes c.args.network.now c.args.load.now c.args.limit c.in_ok-journal.journal _ _ c.in_ok-journal.ensures.journal (c.channels.ensures.ends ∙ sym (channels_are c.args.network.now)) noted.0 noted.1 noted.2
