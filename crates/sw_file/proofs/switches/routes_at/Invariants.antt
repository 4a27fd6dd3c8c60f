use Rattle.std.proofs.Common.{◌≡◌, map, take, [], Ok}
use Rattle.toml.specs.View.{table_view}
use Rattle.sw_text.specs.Gives.{walk}
use Rattle.sw_file.specs.Switches.{next_route}
use Rattle.sw_file.proofs.switches.routes_at.Given as goal

abbrev pub invariant-loop-i : goal.invariant-loop-i
invariant-loop-i l = walk (next_route l.version l.index) [] (take l.i (map (λ t. table_view t.now) l.table-items)) ≡ Ok l.routes
