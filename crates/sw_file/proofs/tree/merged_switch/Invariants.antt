use Rattle.std.proofs.Common.{◌≡◌, map, take, Ok}
use Rattle.toml.specs.View.{table_view}
use Rattle.sw_text.specs.Gives.{each}
use Rattle.sw_file.specs.Tree.{entry_of}
use Rattle.sw_file.specs.Seen.{entry_view}
use Rattle.sw_file.proofs.tree.merged_switch.Given as goal

abbrev pub invariant-loop-route : goal.invariant-loop-route
invariant-loop-route l = each entry_of (take l.route-index (map (λ t. table_view t.now) l.route-items)) ≡ Ok (map entry_view l.entries.items)
