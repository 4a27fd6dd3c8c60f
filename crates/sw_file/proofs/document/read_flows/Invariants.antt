use Rattle.std.proofs.Common.{◌≡◌, map, take, length, Ok}
use Rattle.toml.specs.View.{table_view}
use Rattle.sw_text.specs.Gives.{walk}
use Rattle.sw_file.specs.FlowTables.{next_flow}
use Rattle.sw_file.proofs.document.read_flows.Given as goal

abbrev pub invariant-loop-i : goal.invariant-loop-i
invariant-loop-i l = record {
  so_far : walk (next_flow l.version) l.initial.network (take l.i (map (λ t. table_view t.now) l.table-items)) ≡ Ok l.network;
  count : length l.network.flows ≡ l.i;
}
