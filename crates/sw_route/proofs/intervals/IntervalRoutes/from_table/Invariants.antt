use Rattle.sw_route.specs.Looks.{look_of}
use Rattle.sw_route.proofs.IntervalSteps.{IsRun}
use Rattle.sw_route.proofs.intervals.IntervalRoutes.from_table.Given as goal

abbrev pub invariant-loop-address : goal.invariant-loop-address
invariant-loop-address l = IsRun (look_of l.table) l.address l.look l.intervals.items
