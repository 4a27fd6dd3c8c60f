use Rattle.std.proofs.Common.{◌≡◌, Some, take}
use Rattle.sw_graph.specs.Searches.{IsLeastOf, steps_to}
use Rattle.sw_graph.proofs.cycle_through.least_at.Given as goal

abbrev pub invariant-loop-d : goal.invariant-loop-d
invariant-loop-d l = IsLeastOf (take l.d-index l.ds) (λ d. steps_to l.steps d ≡ Some l.count) l.least
