use Rattle.sw_route.specs.Looks.{overlaps}
use Rattle.sw_route.proofs.Entries.{NonePasses}
use Rattle.sw_route.proofs.table.has_overlap.Given as goal

abbrev pub invariant-loop-other : goal.invariant-loop-other
invariant-loop-other l = NonePasses (overlaps l.route) l.routes l.other-index
