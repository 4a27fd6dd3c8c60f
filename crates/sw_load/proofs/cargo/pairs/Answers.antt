use Rattle.std.proofs.Common.{sym, ◌∙◌}
use Rattle.sw_load.proofs.Spelled.{pair_begun, pair_step, pair_wrong, pairs_end, pairs_half}
use Rattle.sw_load.proofs.cargo.pairs.Goals as goal

pub loop-c-preserved : goal.loop-c-preserved
loop-c-preserved c =
    rw c.in_ok-push.ensures.items (pair_step c.loop-c.bytes.items c.args.text.now c.loop-c.begun c.in-Some.high c.in-Some-hex_pair.byte c.loop-c.c-index c.loop-c.invariant c.in-Some.is c.loop-c-test.true (sym c.in-Some-hex_pair.ensures))

pub loop-c-preserved-in_default : goal.loop-c-preserved-in_default
loop-c-preserved-in_default c = pair_begun c.loop-c.bytes.items c.args.text.now c.loop-c.begun c.loop-c.c-index c.loop-c.invariant c.in_default.is c.loop-c-test.true

pub returns-in_default-hex_pair : goal.returns-in_default-hex_pair
returns-in_default-hex_pair c =
    pair_wrong c.loop-c.bytes.items c.args.text.now c.loop-c.begun c.in-Some.high c.loop-c.c-index c.loop-c.invariant c.in-Some.is c.loop-c-test.true (sym c.hex_pair.ensures ∙ c.in_default-hex_pair.is)

pub returns-in-None : goal.returns-in-None
returns-in-None c = pairs_end c.loop-c.bytes.items c.args.text.now c.loop-c.begun c.loop-c.c-index c.loop-c.invariant c.loop-c-test.false c.in-None.is

pub returns-in-Some-begun : goal.returns-in-Some-begun
returns-in-Some-begun c = pairs_half c.loop-c.bytes.items c.args.text.now c.loop-c.begun c.in-Some-begun.field-0 c.loop-c.c-index c.loop-c.invariant c.loop-c-test.false c.in-Some-begun.is
