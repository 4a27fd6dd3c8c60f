use Rattle.std.proofs.Common.{◌≡◌, ◌++◌, take}
use Rattle.sw_graph.proofs.rows.RowsSteps.push_next.Given as goal

abbrev pub invariant-loop-d : goal.invariant-loop-d
invariant-loop-d l = l.to.items ≡ l.fn.to.items ++ take l.d-index l.d-items
