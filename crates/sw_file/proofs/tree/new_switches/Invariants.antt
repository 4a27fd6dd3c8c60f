use Rattle.std.proofs.Common.{◌≡◌, List, map, take, Ok}
use Rattle.toml.specs.Data.{Members, table}
use Rattle.toml.specs.View.{view, table_view}
use Rattle.sw_text.specs.Gives.{each}
use Rattle.sw_file.specs.Tree.{merged_switch}
use Rattle.sw_file.proofs.tree.new_switches.Given as goal

abbrev pub invariant-loop-table : goal.invariant-loop-table
invariant-loop-table l = (done : List Members) × (each merged_switch (take l.table-index (map (λ t. table_view t.now) l.table-items)) ≡ Ok done) × (map view l.switches.items ≡ map table done)
