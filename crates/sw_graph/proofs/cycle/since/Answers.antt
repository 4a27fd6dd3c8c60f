use Rattle.std.proofs.Common.{get_or, ne_eqb}
use Rattle.sw_graph.proofs.Turns.{fewer_behind, since_is, since_more, since_within}
use Rattle.sw_graph.proofs.cycle.since.Goals as goal

pub bounds-path-from : goal.bounds-path-from
bounds-path-from c = since_within c.args.path.now c.args.again c.loop-from.from c.loop-from.invariant

pub loop-from-smaller : goal.loop-from-smaller
loop-from-smaller c = fewer_behind c.args.path.now c.args.again c.loop-from.from c.loop-from.invariant

pub loop-from-preserved : goal.loop-from-preserved
loop-from-preserved c =
    since_more c.args.path.now c.args.again c.loop-from.from c.loop-from.invariant (ne_eqb (get_or c.args.path.now c.loop-from.from 0) c.args.again c.loop-from-test.true)

pub returns : goal.returns
returns c = since_is c.args.path.now c.args.again c.loop-from.from (since_within c.args.path.now c.args.again c.loop-from.from c.loop-from.invariant) c.loop-from-test.false

pub loop-from-init : goal.loop-from-init
loop-from-init c = c.requires
