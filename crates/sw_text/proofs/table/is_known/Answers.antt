use Rattle.sw_text.proofs.Tests.{key_is, other_key, no_key_is}
use Rattle.sw_text.proofs.table.is_known.Goals as goal

pub returns-then-eq : goal.returns-then-eq
returns-then-eq c = key_is c.args.known.now c.args.name.now c.loop-key.key-index _ c.text.result.now c.eq.result c.loop-key-test.true c.text.ensures c.eq.ensures c.if-eq.true

pub loop-key-preserved : goal.loop-key-preserved
loop-key-preserved c =
    other_key c.args.known.now c.args.name.now c.loop-key.key-index _ c.text.result.now c.eq.result c.loop-key-test.true c.text.ensures c.eq.ensures c.loop-key.invariant c.if-eq.false

pub returns : goal.returns
returns c = no_key_is c.args.known.now c.args.name.now c.loop-key.key-index c.loop-key-test.false c.loop-key.invariant
