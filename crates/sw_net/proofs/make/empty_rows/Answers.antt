use Rattle.std.specs.Global.{Vec}
use Rattle.std.specs.Prelude.{Option}
use Rattle.sw_net.proofs.New.{if_ok, made_too, no_channels}
use Rattle.sw_net.specs.New.{IsRow}
use Rattle.sw_net.proofs.make.empty_rows.Goals as goal

pub loop-w-preserved : goal.loop-w-preserved
loop-w-preserved g c =
    let d = c.args.network.now in
    let ports = g.A.Arbiter.ports in
    let is = if_ok c.empty_row.result (λ row whole. no_channels ports d c.loop-w.w row.items whole) c.empty_row.ensures in
    made_too (λ w (row : Vec (Option g.row.A.Denot)). IsRow ports d 0 w row.items) c.loop-w.rows.items c.push_made.new.all.items c.empty_row.result c.loop-w.w c.loop-w.invariant.0 is c.in_ok-push_made.ensures c.loop-w.invariant.1
