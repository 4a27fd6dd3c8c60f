use Rattle.sw_mend.specs.Spared.{AreKept}
use Rattle.sw_mend.proofs.Using.{AreAtBelow}
use Rattle.sw_mend.proofs.uses.add_flows_at.Given as goal

abbrev pub invariant-loop-number : goal.invariant-loop-number
invariant-loop-number l = AreKept l.initial.numbers.items l.numbers.items × AreAtBelow l.network l.node l.number l.numbers.items
