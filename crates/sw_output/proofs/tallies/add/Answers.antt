use Rattle.std.proofs.Common.{◌≡◌, ◌+◌, Err, Ok, ap, get_or, rules}
use Rattle.sw_output.specs.Tallies.{TallyView, packet_order}
use Rattle.sw_output.proofs.Order.{found_counted, missing_counted, packet_order_total, searched}
use Rattle.sw_output.proofs.tallies.add.Goals as goal

pub returns-in-Ok : goal.returns-in-Ok
returns-in-Ok c =
    let at : c.index_mut.result.now ≡ get_or c.args.tallies.now.items c.in-Ok.i c.index_mut.result.now = search rules in
    let position = searched (λ t. packet_order t.item c.args.packet.now) c.deref.result.now (Ok c.in-Ok.i) c.in-Ok.ensures.position (search rules) in
    found_counted packet_order_total c.args.packet.now c.args.tallies.now.items c.deref.result.now c.in-Ok.i c.index_mut.result.now _ c.deref.ensures.value c.requires.rising
    c.in-Ok.ensures.bound position at (ap (λ (t : TallyView). record t { count = t.count + 1 }) c.behind-tallies.view_is)

pub returns-in_ok-insert-in-Err : goal.returns-in_ok-insert-in-Err
returns-in_ok-insert-in-Err c =
    let position = searched (λ t. packet_order t.item c.args.packet.now) c.deref.result.now (Err c.in-Err.i) c.in-Err.ensures.position (search rules) in
    missing_counted packet_order_total c.args.packet.now c.args.tallies.now.items c.deref.result.now c.in-Err.i c.insert.new.self.items c.deref.ensures.value c.requires.rising
    c.in-Err.ensures.bound position c.in_ok-insert-in-Err.ensures.items
