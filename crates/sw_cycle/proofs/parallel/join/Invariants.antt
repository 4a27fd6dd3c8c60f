use Rattle.sw_cycle.specs.Chunks.{AreJoined}
use Rattle.sw_cycle.proofs.parallel.join.Given as goal

abbrev pub invariant-loop-channel : goal.invariant-loop-channel
invariant-loop-channel l = AreJoined l.part l.channel l.fn.sets l.sets
