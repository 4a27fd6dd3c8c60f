-- The cells of a new journal.
use Rattle.atomic_table.specs.Seated.{TableId}
use Rattle.std.proofs.Common.{All, List, get_or, refl, subst, sym, ◌≡◌}
use Rattle.std.proofs.lemmas.List.Elements.{All-map}
use Rattle.std.proofs.lemmas.Option.{slice_get-get_or}
use Rattle.sw_cell.specs.Places.{IsIn}
use Rattle.sw_config.specs.Entries.{Declaration}
use Rattle.sw_journal.proofs.Told.{placed}
use Rattle.sw_journal.specs.Cells.{cells_of}
use Rattle.sw_journal.specs.Record.{CellView, new_cell, new_cells}
use Rattle.sw_run.specs.Cells.{IsCellOf}

all_inside : (d : Declaration) → All (IsIn d) (cells_of d)
all_inside d = λ k id within. (placed d k (get_or (cells_of d) k id) (slice_get-get_or (cells_of d) k id within)).0

-- each has the journal's name, and is one of the network's
pub all_named : (d : Declaration) (name : TableId) (cells : List CellView) → cells ≡ new_cells d name → All (IsCellOf d name) cells
all_named d name cells is =
    subst (All (IsCellOf d name)) (sym is)
    (All-map (IsCellOf d name) (new_cell d name) (cells_of d) (λ k id within. record { name_is = refl; inside = all_inside d k id within }))
