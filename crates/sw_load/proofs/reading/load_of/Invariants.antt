use Rattle.std.proofs.Common.{◌≡◌, [], map, take, Ok}
use Rattle.toml.specs.View.{table_view}
use Rattle.sw_text.specs.Gives.{walk}
use Rattle.sw_load.specs.Load.{next_packet}
use Rattle.sw_load.proofs.reading.load_of.Given as goal

abbrev pub invariant-loop-i : goal.invariant-loop-i
invariant-loop-i l = walk (next_packet l.network) [] (take l.i (map (λ t. table_view t.now) l.table-items)) ≡ Ok l.load
