use Rattle.std.proofs.Common.{All, take}
use Rattle.sw_mend.specs.Spared.{IsByteUsed, MarksStay}
use Rattle.sw_mend.proofs.uses.mark_bytes.Given as goal

abbrev pub invariant-loop-place : goal.invariant-loop-place
invariant-loop-place l = MarksStay l.initial.bytes.items l.bytes.items × All (IsByteUsed l.network l.flow l.bytes.items) (take l.place-index l.places)
