use Rattle.std.proofs.Common.{◌≡◌, string_bytes}
use Rattle.std.specs.List.{flat_map, range_with_len}
use Rattle.std.specs.Prelude.{slice_index}
use Rattle.sw_summary.specs.BufferLines.{fill_line}
use Rattle.sw_summary.proofs.buffer_lines.fill_lines.Given as goal

abbrev pub invariant-loop-c : goal.invariant-loop-c
invariant-loop-c l = string_bytes l.text ≡ flat_map (λ c. fill_line l.network c (slice_index l.fills c)) (range_with_len 0 l.c)
