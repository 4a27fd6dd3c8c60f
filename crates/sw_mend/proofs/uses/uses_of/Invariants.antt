use Rattle.std.proofs.Common.{All, map, take}
use Rattle.sw_cycle.specs.Cycles.{cause_of}
use Rattle.sw_mend.specs.Spared.{IsCauseUsed}
use Rattle.sw_mend.proofs.uses.uses_of.Given as goal

abbrev pub invariant-loop-cause : goal.invariant-loop-cause
invariant-loop-cause l = All (IsCauseUsed l.network l.uses) (map cause_of (take l.cause-index l.cause-items))
