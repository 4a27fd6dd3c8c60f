use Rattle.std.proofs.Common.{refl}
use Rattle.sw_mend.proofs.Touching.{past_used, read_used}
use Rattle.sw_mend.proofs.sparing.is_used.Goals as goal

pub returns-then-number-bytes : goal.returns-then-number-bytes
returns-then-number-bytes c = read_used c.args.bytes.now c.args.switch c.args.byte c.from.result _ c.from.ensures refl c.if-number-bytes.true

pub returns-else-number-bytes : goal.returns-else-number-bytes
returns-else-number-bytes c = past_used c.args.bytes.now c.args.switch c.args.byte c.from.result _ c.from.ensures refl c.if-number-bytes.false
