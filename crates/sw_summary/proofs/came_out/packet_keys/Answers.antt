use Rattle.std.proofs.Common.{List, ap, append-nil, sym, ◌++◌, ◌∙◌}
use Rattle.std.proofs.lemmas.List.{take_all}
use Rattle.sw_char.specs.PacketView.{PacketView}
use Rattle.sw_summary.specs.Counts.{items_at}
use Rattle.sw_summary.proofs.Lists.{node_more, nodes_done, packet_pushed}
use Rattle.sw_summary.proofs.came_out.packet_keys.Goals as goal

pub loop-packet-init : goal.loop-packet-init
loop-packet-init c = sym (append-nil c.loop-n.all.items)

pub loop-packet-preserved : goal.loop-packet-preserved
loop-packet-preserved c =
    packet_pushed c.loop-n.n c.as_slice-packet-items.result.now c.loop-packet.packet-index c.packet-item.result c.packet_key.result c.loop-n.all.items c.loop-packet.all.items
    c.push.new.self.items c.loop-packet-test.true c.packet-item.is c.packet_key.ensures c.loop-packet.invariant c.in_ok-push.ensures.items

pub loop-n-preserved : goal.loop-n-preserved
loop-n-preserved c =
    let packets = c.as_slice-packet-items.result.now in
    node_more items_at c.args.out.now c.loop-n.n c.loop-n.all.items (items_at c.loop-n.n packets) c.loop-packet.all.items c.index-out-n.result c.loop-n.invariant
    (ap (λ (l : List PacketView). items_at c.loop-n.n l) c.as_slice-packet-items.ensures.value) c.loop-n-test.true c.index-out-n.is
    (c.loop-packet.invariant ∙ ap (λ (l : List PacketView). c.loop-n.all.items ++ items_at c.loop-n.n l) (take_all c.loop-packet.packet-index packets c.loop-packet-test.false))

pub returns : goal.returns
returns c = nodes_done items_at c.args.out.now c.loop-n.n c.loop-n.all.items c.loop-n-test.false c.loop-n.auto.n-end c.loop-n.invariant
