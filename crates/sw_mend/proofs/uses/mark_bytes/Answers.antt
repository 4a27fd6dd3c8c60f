use Rattle.std.proofs.Common.{arith}
use Rattle.sw_mend.proofs.Using.{all_bytes, one_byte_more}
use Rattle.sw_mend.proofs.uses.mark_bytes.Goals as goal

pub loop-place-init : goal.loop-place-init
loop-place-init c = (λ s b set. set, λ k x lt. absurd (omega (arith, lt)))

pub loop-place-preserved : goal.loop-place-preserved
loop-place-preserved c = (
  λ s b set. c.mark_byte.ensures.stay s b (c.loop-place.invariant.0 s b set),
  one_byte_more c.args.network.now c.args.flow.now _ _ c.args.places.now c.loop-place.place-index c.place-item.result c.loop-place-test.true c.place-item.is c.loop-place.invariant.1 c.mark_byte.ensures.stay c.mark_byte.ensures.used,
)

pub returns-clause-stay : goal.returns-clause-stay
returns-clause-stay c = c.loop-place.invariant.0

pub returns-clause-used : goal.returns-clause-used
returns-clause-used c =
    all_bytes c.args.network.now c.args.flow.now _ c.args.places.now c.loop-place.place-index (omega (arith, c.loop-place-test.false)) c.loop-place.invariant.1
