use Rattle.sw_config.specs.Entries.{is_answered_at}
use Rattle.sw_mend.proofs.Touching.{NoneLostBelow}
use Rattle.sw_mend.proofs.sparing.spares_commands.Given as goal

abbrev pub invariant-loop-number : goal.invariant-loop-number
invariant-loop-number l = NoneLostBelow l.network (λ n f. is_answered_at l.node f) l.numbers l.number-index
