use Rattle.sw_mend.specs.Changes.{loses_reply}
use Rattle.sw_mend.proofs.Touching.{NoneLostBelow}
use Rattle.sw_mend.proofs.sparing.spares_replies.Given as goal

abbrev pub invariant-loop-number : goal.invariant-loop-number
invariant-loop-number l = NoneLostBelow l.network (loses_reply l.change) l.numbers l.number-index
