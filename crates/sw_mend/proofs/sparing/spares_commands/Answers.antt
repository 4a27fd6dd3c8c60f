use Rattle.std.proofs.Common.{arith}
use Rattle.sw_config.specs.Entries.{is_answered_at}
use Rattle.sw_mend.proofs.Touching.{none_lost, one_kept}
use Rattle.sw_mend.proofs.sparing.spares_commands.Goals as goal

pub loop-number-init : goal.loop-number-init
loop-number-init c k lt = absurd (omega (arith, lt))

pub loop-number-preserved : goal.loop-number-preserved
loop-number-preserved c =
    one_kept c.args.network.now (λ n f. is_answered_at c.args.node f) c.args.numbers.now c.loop-number.number-index _ c.is_answered_at.result c.loop-number.invariant
    c.flow.ensures.flow c.is_answered_at.ensures c.if-is_answered_at.false

pub returns : goal.returns
returns c told =
    none_lost c.args.network.now (λ n f. is_answered_at c.args.node f) c.args.numbers.now c.loop-number.number-index (omega (arith, c.loop-number-test.false)) c.loop-number.invariant
