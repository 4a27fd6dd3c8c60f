use Rattle.std.specs.List.{AllZip, range_with_len}
use Rattle.sw_flow.specs.Places.{IsPlacesOf}
use Rattle.sw_flow.proofs.parallel.OneByOnePlaceWorkers.all_places.Given as goal

abbrev pub invariant-loop-number : goal.invariant-loop-number
invariant-loop-number l = AllZip (λ i v. IsPlacesOf l.network i v.items) (range_with_len 0 l.number) l.all.items
