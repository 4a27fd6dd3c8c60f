use Rattle.std.proofs.Common.{arith, sym}
use Rattle.sw_mend.proofs.sparing.both_spare.Goals as goal

pub returns-then-is_spared : goal.returns-then-is_spared
returns-then-is_spared c told = (
  c.index-cycles-number.result,
  (c.args.number, omega (arith, c.if-number-cycles.false), sym c.index-cycles-number.is),
  c.is_spared-then-is_spared.ensures told,
  c.is_spared.ensures c.if-is_spared.true,
)
