use Rattle.std.proofs.Common.{◌≡◌, map, take, Ok}
use Rattle.toml.specs.View.{table_view}
use Rattle.sw_text.specs.Gives.{walk}
use Rattle.sw_file.specs.Lists.{next_part, HasParts}
use Rattle.sw_file.proofs.document.read_list.Given as goal

abbrev pub invariant-loop-i : goal.invariant-loop-i
invariant-loop-i l = record {
  so_far : walk (next_part l.limit l.version) l.initial.builder (take l.i (map (λ t. table_view t.now) l.table-items)) ≡ Ok l.builder;
  parts : HasParts l.limit l.i l.builder;
}
