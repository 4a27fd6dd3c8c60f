use Rattle.sw_load.proofs.Spelled.{digit_step}
use Rattle.sw_load.proofs.cargo.count_of.Goals as goal

pub loop-c-preserved : goal.loop-c-preserved
loop-c-preserved c =
    let few = c.if-value.false in
    let step = digit_step c.loop-c.value c.loop-c.c-index c.args.text.now c.loop-c.invariant.same c.loop-c-test.true c.if-c-lt48.false c.if-c-gt57.false (rw c.from.ensures at few) in
    record { same = rw c.from.ensures step; low = few }
