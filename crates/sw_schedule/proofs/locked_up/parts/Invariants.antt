use Rattle.std.proofs.Common.{take}
use Rattle.sw_schedule.proofs.locked_up.parts.Given as goal
use Rattle.sw_schedule.specs.Locked.{ArePartsAt}

abbrev pub invariant-loop-cell : goal.invariant-loop-cell
invariant-loop-cell l = ArePartsAt l.net (take l.cell-index l.cell-items) l.all.items
