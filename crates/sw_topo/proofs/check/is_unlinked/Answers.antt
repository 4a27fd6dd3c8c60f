use Rattle.std.proofs.Common.{ap, not, sym}
use Rattle.sw_topo.specs.Wiring.{is_at_switch}
use Rattle.sw_topo.proofs.Passing.{none_read, one_read}
use Rattle.sw_topo.proofs.check.is_unlinked.Goals as goal

pub returns-then-is_at_switch : goal.returns-then-is_at_switch
returns-then-is_at_switch c =
    sym (ap not (one_read (is_at_switch c.args.switch) c.args.ends.now c.loop-end.end-index c.end-item.result c.is_at_switch.result c.loop-end-test.true c.end-item.is c.is_at_switch.ensures c.if-is_at_switch.true))

pub loop-end-preserved : goal.loop-end-preserved
loop-end-preserved c =
    none_read (is_at_switch c.args.switch) c.args.ends.now c.loop-end.end-index c.end-item.result c.is_at_switch.result c.loop-end-test.true c.end-item.is c.loop-end.invariant c.is_at_switch.ensures c.if-is_at_switch.false
