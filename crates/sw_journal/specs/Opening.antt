-- The cells of a new journal, opened one after another.
use Rattle.atomic_table.specs.Seated.{TableId}
use Rattle.atomic_table.specs.Table.{Me}
use Rattle.std.specs.List.{range_with_len}
use Rattle.std.specs.Prelude.{List, [], filter, map, ℕ, ◌≡◌}
use Rattle.sw_cell.specs.Places.{machine_cell}
use Rattle.sw_cell.specs.declared.cell.CellId.{CellId}
use Rattle.sw_cell.specs.declared.cell.CellId.TheVariants.{Node}
use Rattle.sw_journal.specs.Cells.{known_of, same_cell}
use Rattle.sw_journal.specs.Record.{CellView, new_cell}
use Rattle.sw_machine.specs.Network.{Network}
use Rattle.sw_machine.specs.State.{State, empty}
use Rattle.sw_machine.specs.Model.{network_of}
use Rattle.sw_net.specs.Numbers.{numbers_at}
use Rattle.sw_net.specs.declared.numbers.Numbers.{Numbers}
use Rattle.sw_config.specs.Entries.{Declaration}
use Rattle.sw_journal.specs.Views.{knower}
use Rattle.sw_journal.specs.declared.cell_table.SeatChange.{SeatChange}
use Rattle.sw_journal.specs.declared.cell_table.View.{View}

-- those of these link ends that stand at the cell, each with its numbers in a state
abbrev pub numbered_of : Network → State → CellId → List ℕ → List (ℕ × Numbers)
numbered_of net s id ends = map (λ e. (e, numbers_at net s e)) (filter (λ e. same_cell (net.start_of e) (machine_cell id)) ends)

-- the first n nodes
abbrev pub node_ids : ℕ → List CellId
node_ids n = map (λ k. Node k) (range_with_len 0 n)

-- there is a cell for each of these in the empty state, and the journal's seat knows what they know
pub record AreOpened (d : Declaration) (name : TableId) (ids : List CellId) (cells : List CellView) (me : Me SeatChange View) : Type 0 where
  pub cells_are : cells ≡ map (new_cell d name) ids
  pub seat : me ≡ (knower (map (known_of (network_of d) (empty (network_of d))) ids), [])
