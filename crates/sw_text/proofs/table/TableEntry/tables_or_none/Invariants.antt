use Rattle.std.proofs.Common.{◌≡◌, map, take, Ok}
use Rattle.toml.specs.View.{view, table_view}
use Rattle.sw_text.specs.Gives.{each}
use Rattle.sw_text.specs.Table.{table_value}
use Rattle.sw_text.proofs.table.TableEntry.tables_or_none.Given as goal

abbrev pub invariant-loop-value : goal.invariant-loop-value
invariant-loop-value l = each (table_value l.self.section l.key) (take l.value-index (map view l.value-items)) ≡ Ok (map (λ t. table_view t.now) l.tables.items)
