use Rattle.std.proofs.Common.{◌∙◌, ap, string_bytes}
use Rattle.sw_char.specs.PacketView.{PacketView}
use Rattle.sw_output.specs.PacketTexts.{bytes_text, end_text, packet_line}
use Rattle.sw_output.proofs.EachLine.{all_added, line_added}
use Rattle.sw_output.proofs.NodeLines.{packet_line_is}
use Rattle.sw_output.proofs.packet_lines.add_packets.Goals as goal

pub loop-packet-preserved : goal.loop-packet-preserved
loop-packet-preserved c =
    let p = c.packet-item.result in
    let before = string_bytes c.loop-packet.text in
    let bytes = c.in_ok-bytes.ensures ∙ ap bytes_text c.deref.ensures.value ∙ ap (λ (q : PacketView). bytes_text q.bytes) c.packet.view_is in
    let end = c.end_text-end.ensures ∙ ap (λ (q : PacketView). end_text q.end) c.packet.view_is in
    line_added (packet_line c.args.name.now) c.args.packets.now c.loop-packet.packet-index p (string_bytes c.args.text.now) before _ c.loop-packet-test.true c.packet-item.is
    c.loop-packet.invariant (packet_line_is c.args.name.now p _ _ before _ bytes end c.in_ok-write.ensures.bytes)

pub returns : goal.returns
returns c = all_added (packet_line c.args.name.now) c.args.packets.now c.loop-packet.packet-index (string_bytes c.args.text.now) _ c.loop-packet-test.false c.loop-packet.invariant
