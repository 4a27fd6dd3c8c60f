use Rattle.std.proofs.Common.{drop}
use Rattle.sw_flow.specs.Ways.{GoesOver}
use Rattle.sw_cycle.proofs.check.goes_over.Given as goal

abbrev pub invariant-loop-place : goal.invariant-loop-place
invariant-loop-place l = record {
  on : GoesOver l.network l.flow l.fn.from l.places → GoesOver l.network l.flow l.last (drop l.place-index l.places);
  back : GoesOver l.network l.flow l.last (drop l.place-index l.places) → GoesOver l.network l.flow l.fn.from l.places;
}
