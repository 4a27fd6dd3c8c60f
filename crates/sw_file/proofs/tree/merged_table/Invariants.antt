use Rattle.std.proofs.Common.{◌≡◌, map, take}
use Rattle.toml.specs.Data.{table}
use Rattle.toml.specs.View.{view}
use Rattle.sw_file.specs.Tree.{row_table}
use Rattle.sw_file.specs.Seen.{row_view}
use Rattle.sw_file.proofs.tree.merged_table.Given as goal

abbrev pub invariant-loop-row : goal.invariant-loop-row
invariant-loop-row l = map view l.routes.items ≡ map table (map row_table (map row_view (take l.row-index l.row-items)))
