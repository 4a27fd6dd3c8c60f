-- What stays the same of a journal while it runs.
use Rattle.std.specs.Prelude.{◌≡◌}
use Rattle.sw_journal.specs.Record.{JournalView}

-- the second journal is of the same run as the first
pub record IsSameRun (j k : JournalView) : Type 0 where
  pub name : k.name ≡ j.name
  pub declared : k.declared ≡ j.declared
