use Rattle.std.proofs.Common.{arith}
use Rattle.sw_mend.proofs.Touching.{none_used, one_unused}
use Rattle.sw_mend.proofs.sparing.spares_entry.Goals as goal

pub loop-byte-init : goal.loop-byte-init
loop-byte-init c b from lt = absurd (omega (arith, from, lt))

pub loop-byte-preserved : goal.loop-byte-preserved
loop-byte-preserved c = one_unused c.args.route.now.first c.args.bytes.now c.args.switch c.loop-byte.byte c.is_used.result c.loop-byte.invariant c.is_used.ensures c.if-is_used.false

pub returns : goal.returns
returns c told = none_used c.args.route.now c.args.bytes.now c.args.switch c.loop-byte.byte (omega (arith, c.loop-byte-test.false)) c.loop-byte.invariant
