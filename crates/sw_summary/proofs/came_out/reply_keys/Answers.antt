use Rattle.std.proofs.Common.{List, None, Some, ap, append-nil, sym, ◌++◌, ◌∙◌}
use Rattle.std.proofs.lemmas.List.{take_all}
use Rattle.sw_char.specs.PacketView.{PacketView}
use Rattle.sw_summary.specs.Counts.{replies_at}
use Rattle.sw_summary.proofs.Lists.{node_more, nodes_done, reply_pushed}
use Rattle.sw_summary.proofs.came_out.reply_keys.Goals as goal

pub loop-packet-init : goal.loop-packet-init
loop-packet-init c = sym (append-nil c.loop-n.all.items)

pub loop-packet-preserved-in_default : goal.loop-packet-preserved-in_default
loop-packet-preserved-in_default c =
    reply_pushed c.loop-n.n c.as_slice-packet-items.result.now c.loop-packet.packet-index c.packet-item.result None c.loop-n.all.items c.loop-packet.all.items c.loop-packet.all.items
    c.loop-packet-test.true c.packet-item.is (sym c.in_default.is ∙ c.reply_key.ensures) c.loop-packet.invariant (sym (append-nil c.loop-packet.all.items))

pub loop-packet-preserved : goal.loop-packet-preserved
loop-packet-preserved c =
    reply_pushed c.loop-n.n c.as_slice-packet-items.result.now c.loop-packet.packet-index c.packet-item.result (Some c.in-Some.key) c.loop-n.all.items c.loop-packet.all.items
    c.push.new.self.items c.loop-packet-test.true c.packet-item.is (sym c.in-Some.is ∙ c.reply_key.ensures) c.loop-packet.invariant c.in_ok-push.ensures.items

pub loop-n-preserved : goal.loop-n-preserved
loop-n-preserved c =
    let packets = c.as_slice-packet-items.result.now in
    node_more replies_at c.args.out.now c.loop-n.n c.loop-n.all.items (replies_at c.loop-n.n packets) c.loop-packet.all.items c.index-out-n.result c.loop-n.invariant
    (ap (λ (l : List PacketView). replies_at c.loop-n.n l) c.as_slice-packet-items.ensures.value) c.loop-n-test.true c.index-out-n.is
    (c.loop-packet.invariant ∙ ap (λ (l : List PacketView). c.loop-n.all.items ++ replies_at c.loop-n.n l) (take_all c.loop-packet.packet-index packets c.loop-packet-test.false))

pub returns : goal.returns
returns c = nodes_done replies_at c.args.out.now c.loop-n.n c.loop-n.all.items c.loop-n-test.false c.loop-n.auto.n-end c.loop-n.invariant
