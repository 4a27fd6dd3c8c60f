-- The cells of a run.
use Rattle.atomic_table.specs.Seated.{TableId}
use Rattle.std.specs.Prelude.{◌≡◌}
use Rattle.sw_cell.specs.Places.{IsIn}
use Rattle.sw_config.specs.Entries.{Declaration}
use Rattle.sw_journal.specs.Record.{CellView}

-- a cell of the journal with this name, and one of the network's
pub record IsCellOf (d : Declaration) (name : TableId) (cell : CellView) : Type 0 where
  pub name_is : cell.name ≡ name
  pub inside : IsIn d cell.id
