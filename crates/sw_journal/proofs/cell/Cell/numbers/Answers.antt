use Rattle.sw_journal.proofs.Looked.{found, not_found}
use Rattle.sw_journal.proofs.cell.Cell.numbers.Goals as goal

pub returns-then-number : goal.returns-then-number
returns-then-number c =
    found c.args.end c.ends-own-items.result.now c.args.self.now.ends c.loop-own.own-index c.loop-own-item.result c.number.result c.number-in-loop-own.result
    c.ends-own-items.ensures c.loop-own-test.true c.loop-own-item.is c.loop-own.invariant c.number.ensures c.number-in-loop-own.ensures c.if-number.true

pub loop-own-preserved : goal.loop-own-preserved
loop-own-preserved c =
    not_found c.args.end c.ends-own-items.result.now c.args.self.now.ends c.loop-own.own-index c.loop-own-item.result c.number.result c.number-in-loop-own.result
    c.ends-own-items.ensures c.loop-own-test.true c.loop-own-item.is c.loop-own.invariant c.number.ensures c.number-in-loop-own.ensures c.if-number.false
