use Rattle.std.proofs.Common.{take}
use Rattle.sw_cycle.specs.Firsts.{AreFirst, NoneYet}
use Rattle.sw_cycle.proofs.firsts.note_places.Given as goal

abbrev pub invariant-loop-place : goal.invariant-loop-place
invariant-loop-place l = AreFirst l.network (NoneYet l.network l.number l.flow (take l.place-index l.places)) l.channels l.steps
