use Rattle.sw_mend.specs.Changes.{loses_flow}
use Rattle.sw_mend.proofs.Touching.{NoneLostBelow}
use Rattle.sw_mend.proofs.sparing.spares_flows.Given as goal

abbrev pub invariant-loop-number : goal.invariant-loop-number
invariant-loop-number l = NoneLostBelow l.network (loses_flow l.change) l.numbers l.number-index
