use Rattle.std.proofs.Common.{◌≡◌, false, filter}
use Rattle.std.specs.Prelude.{slice_index_or}
use Rattle.std.specs.List.{range_with_len}
use Rattle.sw_graph.proofs.walk.Walk.into_sorted.Given as goal

abbrev pub invariant-loop-number : goal.invariant-loop-number
invariant-loop-number l = l.numbers.items ≡ filter (λ n. slice_index_or l.is_found.items n false) (range_with_len 0 l.number)
