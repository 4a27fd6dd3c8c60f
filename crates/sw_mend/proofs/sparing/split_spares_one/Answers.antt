use Rattle.std.proofs.Common.{arith, sym}
use Rattle.sw_mend.proofs.sparing.split_spares_one.Goals as goal

pub returns-then-is_split_spared : goal.returns-then-is_split_spared
returns-then-is_split_spared c told =
    (c.index-cycles-number.result, (_, omega (arith, c.loop-behind-test.true), sym c.index-cycles-number.is), c.is_split_spared.ensures c.if-is_split_spared.true)
