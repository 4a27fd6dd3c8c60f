use Rattle.std.proofs.Common.{◌≡◌, ◌++◌, map, take}
use Rattle.toml.specs.View.{table_view}
use Rattle.sw_faults.specs.FileNames.{each_name}
use Rattle.sw_faults.proofs.names.add_names.Given as goal

abbrev pub invariant-loop-table : goal.invariant-loop-table
invariant-loop-table l =
    map (λ t. t.now) l.names.items ≡ map (λ t. t.now) l.initial.names.items ++ each_name (map (λ t. table_view t.now) (take l.table-index l.table-items))
