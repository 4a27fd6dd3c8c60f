use Rattle.std.proofs.Common.{take, get_or}
use Rattle.std.proofs.lemmas.List.{take_more}
use Rattle.sw_margin.proofs.Waiting.{with_more}
use Rattle.sw_margin.proofs.rows.add_waits.Goals as goal

pub loop-wait-preserved : goal.loop-wait-preserved
loop-wait-preserved c =
    let xs = c.args.waits.now in
    let i = c.loop-wait.wait-index in
    rw (take_more xs i (0, 0) c.loop-wait-test.true) (with_more (take i xs) (get_or xs i (0, 0)) c.args.rows.now c.loop-wait.rows c.add_wait.new.rows c.loop-wait.invariant c.in_ok-add_wait.ensures)
