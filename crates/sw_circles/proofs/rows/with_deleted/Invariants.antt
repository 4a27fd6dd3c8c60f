use Rattle.std.proofs.Common.{◌≡◌, take}
use Rattle.sw_circles.specs.Circles.{with_deleted}
use Rattle.sw_circles.proofs.rows.with_deleted.Given as goal

abbrev pub invariant-loop-place : goal.invariant-loop-place
invariant-loop-place l = l.kept.items ≡ with_deleted l.deleted (take l.place-index l.places)
