use Rattle.std.proofs.Common.{◌≡◌, false}
use Rattle.std.specs.List.{list_any, range_with_len}
use Rattle.sw_graph.specs.Rounds.{is_marked}
use Rattle.sw_linter.proofs.tables.is_any_marked.Given as goal

abbrev pub invariant-loop-step : goal.invariant-loop-step
invariant-loop-step l = list_any (is_marked l.marks) (range_with_len l.from l.step) ≡ false
