use Rattle.std.proofs.Common.{ap, arith, length}
use Rattle.std.proofs.lemmas.List.{length_push}
use Rattle.sw_net.proofs.make.empty_row.Goals as goal

pub loop-port-preserved : goal.loop-port-preserved
loop-port-preserved g c =
    let one = c.in_ok-push_made.ensures in
    let before = c.loop-port.invariant in
    omega (arith, length_push c.loop-port.row.items one.0, ap length one.2, before)
