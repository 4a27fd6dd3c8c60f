use Rattle.std.proofs.Common.{◌≡◌, List, Option}
use Rattle.std.specs.Prelude.{filter_map}
use Rattle.std.specs.List.{AllZip, range_with_len}
use Rattle.sw_circles.specs.Circlings.{CirclingView, IsCirclingOf}
use Rattle.sw_circles.proofs.of_network.circling_flows.Given as goal

abbrev pub invariant-loop-flow : goal.invariant-loop-flow
invariant-loop-flow l = (each : List (Option CirclingView)) × AllZip (IsCirclingOf l.network) (range_with_len 0 l.flow) each × (l.told.items ≡ filter_map (λ o. o) each)
