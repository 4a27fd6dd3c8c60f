use Rattle.std.proofs.Common.{take}
use Rattle.sw_mend.specs.Mends.{AreThose, FailsAlone}
use Rattle.sw_mend.specs.Spared.{AreOfCycles}
use Rattle.sw_mend.proofs.pairs.failing_alone.Given as goal

abbrev pub invariant-loop-number : goal.invariant-loop-number
invariant-loop-number g l = AreOfCycles l.network l.cycles.items × AreThose (FailsAlone l.network) (take l.number l.change-items) l.failing.items
