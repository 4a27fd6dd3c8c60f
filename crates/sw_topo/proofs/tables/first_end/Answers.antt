use Rattle.std.proofs.Common.{sym}
use Rattle.sw_topo.specs.Wiring.{is_node}
use Rattle.sw_topo.proofs.Passing.{found_first, none_read, not_found}
use Rattle.sw_topo.proofs.tables.first_end.Goals as goal

pub returns-then-is_node : goal.returns-then-is_node
returns-then-is_node c =
    sym (found_first (is_node c.args.node) c.args.ends.now c.loop-number.number c.index-ends-number.result c.is_node.result c.loop-number-test.true c.index-ends-number.is c.loop-number.invariant c.is_node.ensures c.if-is_node.true)

pub loop-number-preserved : goal.loop-number-preserved
loop-number-preserved c =
    none_read (is_node c.args.node) c.args.ends.now c.loop-number.number c.index-ends-number.result c.is_node.result c.loop-number-test.true c.index-ends-number.is c.loop-number.invariant c.is_node.ensures c.if-is_node.false

pub returns : goal.returns
returns c = sym (not_found (is_node c.args.node) c.args.ends.now c.loop-number.number c.loop-number-test.false c.loop-number.invariant)
