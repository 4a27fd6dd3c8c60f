use Rattle.std.proofs.Common.{ap}
use Rattle.sw_journal.specs.Record.{JournalView}
use Rattle.test_runs.proofs.Named.{new_named}
use Rattle.test_runs.proofs.journals.pair.Pair.open.Goals as goal

pub invariant_of-result : goal.invariant_of-result
invariant_of-result c = record {
  network_is = ap (λ (journal : JournalView). journal.declared) c.in_ok-journal.ensures.journal;
  cells_are = new_named c.args.network.now c.in_ok-journal.journal.name c.in_ok-journal.cells.items c.in_ok-journal.ensures.cells;
}
