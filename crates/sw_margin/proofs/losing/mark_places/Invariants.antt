use Rattle.std.proofs.Common.{take}
use Rattle.sw_margin.specs.Needs.{AreMarked}
use Rattle.sw_margin.proofs.losing.mark_places.Given as goal

abbrev pub invariant-loop-place : goal.invariant-loop-place
invariant-loop-place l = AreMarked l.network l.flow (take l.place-index l.places) l.fn.marks l.marks
