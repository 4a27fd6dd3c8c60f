use Rattle.std.proofs.Common.{take}
use Rattle.sw_cycle.specs.Firsts.{NoneFrom}
use Rattle.sw_cycle.proofs.goers.goes_on_from.Given as goal

abbrev pub invariant-loop-place : goal.invariant-loop-place
invariant-loop-place l = NoneFrom l.network l.flow (take l.place-index l.place-items) l.from l.to
