use Rattle.std.proofs.Common.{List, ap, append-nil, false, sym, true, ◌++◌, ◌∙◌, ◌≡◌}
use Rattle.std.proofs.lemmas.List.{take_all}
use Rattle.std.specs.Global.{Vec}
use Rattle.std.specs.List.{flat_map}
use Rattle.sw_char.specs.PacketView.{PacketView}
use Rattle.sw_summary.specs.Counts.{statuses_of}
use Rattle.sw_summary.specs.Replies.{is_reply, status_of}
use Rattle.sw_summary.proofs.Lists.{made_more, status_kept, status_pushed, status_read, statuses_are}
use Rattle.sw_summary.proofs.status_lines.statuses.Goals as goal

pub loop-packet-init : goal.loop-packet-init
loop-packet-init c = sym (append-nil c.loop-packets.all.items)

pub loop-packet-preserved-then-not-is_reply : goal.loop-packet-preserved-then-not-is_reply
loop-packet-preserved-then-not-is_reply c =
    let q = c.packet-item.result in
    let none : is_reply q.bytes ≡ false =
    sym (c.is_reply.ensures.value ∙ ap is_reply (c.deref.ensures.value ∙ ap (λ (p : PacketView). p.bytes) c.packet.view_is)) ∙ c.if-not-is_reply.true
    in
    status_kept c.as_slice-packet-items.result.now c.loop-packet.packet-index q c.loop-packet-test.true c.packet-item.is c.loop-packets.all.items c.loop-packet.all.items none c.loop-packet.invariant

pub loop-packet-preserved : goal.loop-packet-preserved
loop-packet-preserved c =
    let q = c.packet-item.result in
    let is : is_reply q.bytes ≡ true =
    sym (c.is_reply.ensures.value ∙ ap is_reply (c.deref.ensures.value ∙ ap (λ (p : PacketView). p.bytes) c.packet.view_is)) ∙ c.if-not-is_reply.false
    in
    let status : c.index.result.now ≡ status_of q.bytes =
    status_read c.packet.inside.bytes.items q.bytes c.deref.result.now c.index.result.now (c.is_reply.ensures.some c.if-not-is_reply.false) c.deref.ensures.value c.index.ensures
    (ap (λ (p : PacketView). p.bytes) c.packet.view_is)
    in
    status_pushed c.as_slice-packet-items.result.now c.loop-packet.packet-index q c.loop-packet-test.true c.packet-item.is c.loop-packets.all.items c.loop-packet.all.items c.push.new.self.items
    c.index.result.now is status c.loop-packet.invariant c.in_ok-push.ensures.items

pub loop-packets-preserved : goal.loop-packets-preserved
loop-packets-preserved c =
    let packets = c.as_slice-packet-items.result.now in
    made_more (λ (v : Vec PacketView). statuses_of v.items) c.args.out.now c.loop-packets.packets-index c.packets-item.result c.loop-packets.all.items (statuses_of packets) c.loop-packet.all.items
    c.loop-packets-test.true c.packets-item.is c.loop-packets.invariant (ap statuses_of c.as_slice-packet-items.ensures.value)
    (c.loop-packet.invariant ∙ ap (λ l. c.loop-packets.all.items ++ statuses_of l) (take_all c.loop-packet.packet-index packets c.loop-packet-test.false))

pub returns : goal.returns
returns c =
    c.loop-packets.invariant
    ∙ ap (λ (l : List (Vec PacketView)). flat_map (λ packets. statuses_of packets.items) l) (take_all c.loop-packets.packets-index c.args.out.now c.loop-packets-test.false)
    ∙ statuses_are c.args.out.now
