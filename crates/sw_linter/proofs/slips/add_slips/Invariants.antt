use Rattle.std.proofs.Common.{◌≡◌, ◌++◌}
use Rattle.std.specs.Prelude.{flat_map}
use Rattle.std.specs.List.{range_with_len}
use Rattle.sw_linter.specs.Marks.{slip_at}
use Rattle.sw_linter.proofs.slips.add_slips.Given as goal

abbrev pub invariant-loop-number : goal.invariant-loop-number
invariant-loop-number l = l.lints.items ≡ l.initial.lints.items ++ flat_map (slip_at l.network l.nodes l.marks l.slip) (range_with_len 0 l.number)
