use Rattle.sw_cycle.specs.Goers.{AreBelow}
use Rattle.sw_cycle.proofs.goers.flows_of_steps.Given as goal

abbrev pub invariant-loop-number : goal.invariant-loop-number
invariant-loop-number l = AreBelow l.network l.channels l.number l.flows.items
