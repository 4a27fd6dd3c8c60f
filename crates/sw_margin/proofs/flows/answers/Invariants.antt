use Rattle.std.proofs.Common.{false, filter}
use Rattle.std.specs.Prelude.{slice_get}
use Rattle.std.specs.List.{AllZip, range_with_len}
use Rattle.std.specs.Option.{option_map_or}
use Rattle.sw_margin.specs.Bends.{IsAnswer, is_answerable}
use Rattle.sw_margin.proofs.flows.answers.Given as goal

abbrev pub invariant-loop-flow : goal.invariant-loop-flow
invariant-loop-flow g l = AllZip (IsAnswer l.network) (filter (λ i. option_map_or (is_answerable l.network) (slice_get l.network.flows i) false) (range_with_len 0 l.flow)) l.told.items
