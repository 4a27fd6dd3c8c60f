use Rattle.std.proofs.Common.{◌≡◌, length, take}
use Rattle.sw_flow.specs.Places.{ends_of}
use Rattle.sw_cycle.specs.Goers.{AreMarked}
use Rattle.sw_cycle.proofs.Taken.{AreTaken}
use Rattle.sw_cycle.proofs.goers.take_numbered.Given as goal

abbrev pub invariant-loop-place : goal.invariant-loop-place
invariant-loop-place l = AreMarked (take l.place-index l.listed) l.marks.items × (length l.marks.items ≡ length (ends_of l.network))

abbrev pub invariant-loop-step : goal.invariant-loop-step
invariant-loop-step l = AreTaken l.network l.channels l.number l.step l.flows
