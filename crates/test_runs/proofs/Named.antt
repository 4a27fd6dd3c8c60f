-- The cells of a new journal have its name.
use Rattle.atomic_table.specs.Seated.{TableId}
use Rattle.std.proofs.Common.{All, List, ap, arith, length, map, subst, sym, ◌<◌, ◌≡◌}
use Rattle.std.proofs.lemmas.List.{get_or-map, length-map}
use Rattle.sw_cell.specs.declared.cell.CellId.{CellId}
use Rattle.sw_cell.specs.declared.cell.CellId.TheVariants.{Node}
use Rattle.sw_journal.specs.Cells.{cells_of}
use Rattle.sw_journal.specs.Record.{CellView, new_cell, new_cells}
use Rattle.sw_config.specs.Entries.{Declaration}

all_named : (d : Declaration) (name : TableId) (ids : List CellId) → All {X = CellView} (λ c. c.name ≡ name) (map (new_cell d name) ids)
all_named d name ids k x lt =
    let few : k < length ids = omega (arith, lt, length-map ids (new_cell d name)) in
    ap (λ (c : CellView). c.name) (get_or-map (new_cell d name) ids k (Node 0) x few)

pub new_named : (d : Declaration) (name : TableId) (cells : List CellView) → cells ≡ new_cells d name → All {X = CellView} (λ c. c.name ≡ name) cells
new_named d name cells is = subst (λ (l : List CellView). All {X = CellView} (λ c. c.name ≡ name) l) (sym is) (all_named d name (cells_of d))
