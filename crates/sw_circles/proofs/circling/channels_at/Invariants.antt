use Rattle.std.proofs.Common.{◌≡◌, take}
use Rattle.sw_circles.specs.Circles.{channels_at}
use Rattle.sw_circles.proofs.circling.channels_at.Given as goal

abbrev pub invariant-loop-number : goal.invariant-loop-number
invariant-loop-number l = l.channels.items ≡ channels_at l.places (take l.number-index l.numbers)
