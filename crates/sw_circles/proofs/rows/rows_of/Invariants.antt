use Rattle.std.proofs.Common.{◌≡◌, map, take}
use Rattle.sw_circles.specs.Circles.{row_from}
use Rattle.sw_circles.proofs.rows.rows_of.Given as goal

abbrev pub invariant-loop-place : goal.invariant-loop-place
invariant-loop-place l = map (λ r. r.items) l.rows.items ≡ map (row_from l.network l.flow l.places) (take l.place-index l.places)
