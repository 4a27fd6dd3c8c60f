use Rattle.std.proofs.Common.{List, take}
use Rattle.sw_flow.specs.declared.place.Place.{Place}
use Rattle.sw_cycle.specs.Firsts.{AreFirst, NoneYet}
use Rattle.sw_cycle.proofs.Found.{ArePartly}
use Rattle.sw_cycle.proofs.firsts.note_place.Given as goal

abbrev pub invariant-loop-position : goal.invariant-loop-position
invariant-loop-position l = (places : List Place) → AreFirst l.network (NoneYet l.network l.number l.flow places) l.channels l.fn.steps
    → ArePartly l.network l.number l.flow places l.place l.channels (take l.position-index l.positions) l.steps
