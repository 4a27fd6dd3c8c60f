use Rattle.std.proofs.Common.{◌≡◌, List, ℕ, map}
use Rattle.std.specs.List.{AllZip, flat_map, range_with_len}
use Rattle.sw_circles.specs.Circles.{AreCirclesOf, with_deleted}
use Rattle.sw_circles.proofs.circling.circles.Given as goal

abbrev pub invariant-loop-deleted : goal.invariant-loop-deleted
invariant-loop-deleted l = (each : List (List (List ℕ))) × AllZip (λ k. AreCirclesOf l.network l.flow (with_deleted k l.places)) (range_with_len 0 l.deleted) each × (map (λ c. c.items) l.circles.items ≡ flat_map (λ c. c) each)
