use Rattle.sw_cycle.specs.Causes.{NoneBelow}
use Rattle.sw_cycle.specs.Firsts.{AreFirst}
use Rattle.sw_cycle.proofs.firsts.first_steps.Given as goal

abbrev pub invariant-loop-number : goal.invariant-loop-number
invariant-loop-number l = AreFirst l.network (NoneBelow l.network l.number) l.channels l.steps.items
