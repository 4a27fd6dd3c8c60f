use Rattle.std.proofs.Common.{◌≡◌, ◌≤◌, ◌+◌}
use Rattle.sw_faults.specs.LineColumn.{column_of, line_of}
use Rattle.sw_faults.proofs.line_column.position_at.Given as goal

abbrev pub invariant-loop-byte : goal.invariant-loop-byte
invariant-loop-byte l = record {
  line : l.line ≡ line_of l.before l.byte-index;
  column : l.column ≡ column_of l.before l.byte-index;
  lines : l.line ≤ l.byte-index + 1;
  columns : l.column ≤ l.byte-index + 1;
}
