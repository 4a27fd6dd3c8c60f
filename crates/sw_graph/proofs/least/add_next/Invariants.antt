use Rattle.std.proofs.Common.{◌≡◌, take}
use Rattle.sw_graph.specs.Walks.{with_all}
use Rattle.sw_graph.proofs.least.add_next.Given as goal

abbrev pub invariant-loop-number : goal.invariant-loop-number
invariant-loop-number g l = record {
  bound : l.walk.bound ≡ l.fn.walk.bound;
  numbers : l.walk.numbers ≡ with_all l.fn.walk.numbers (take l.number-index l.number-items);
}
