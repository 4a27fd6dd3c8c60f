use Rattle.std.proofs.Common.{◌≡◌, false, take}
use Rattle.std.specs.List.{list_any}
use Rattle.sw_circles.specs.Circles.{is_end}
use Rattle.sw_circles.proofs.circling.arrives.Given as goal

abbrev pub invariant-loop-place : goal.invariant-loop-place
invariant-loop-place l = list_any (is_end l.network l.flow) (take l.place-index l.places) ≡ false
