use Rattle.std.proofs.Common.{map}
use Rattle.sw_cycle.specs.Causes.{AreFor}
use Rattle.sw_cycle.specs.Cycles.{cause_of}
use Rattle.sw_cycle.proofs.choose.causes.Given as goal

abbrev pub invariant-loop-place : goal.invariant-loop-place
invariant-loop-place l = AreFor l.network l.channels l.place (map cause_of l.causes.items)
