use Rattle.std.proofs.Common.{◌≡◌, ◌++◌}
use Rattle.std.specs.Prelude.{filter_map, position}
use Rattle.sw_circles.specs.Circles.{is_place}
use Rattle.sw_circles.proofs.rows.row_from.Given as goal

abbrev pub invariant-loop-next : goal.invariant-loop-next
invariant-loop-next l = l.row.items ++ filter_map (λ q. position (is_place q) l.places) l.next-iterator ≡ l.initial.row.items ++ filter_map (λ q. position (is_place q) l.places) l.initial.next-iterator
