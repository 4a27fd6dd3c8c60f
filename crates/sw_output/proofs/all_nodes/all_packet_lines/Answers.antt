use Rattle.std.proofs.Common.{◌<◌, ◌∙◌, ℕ, ap, length, string_bytes, subst, sym}
use Rattle.sw_output.specs.PacketTexts.{packet_lines}
use Rattle.sw_output.proofs.NodeLines.{lines_more}
use Rattle.sw_output.proofs.all_nodes.all_packet_lines.Goals as goal

pub loop-n-preserved : goal.loop-n-preserved
loop-n-preserved c =
    let name = c.node_name-name.result.now in
    let within : c.loop-n.n < length c.args.all.now = subst (λ (k : ℕ). c.loop-n.n < k) (c.nodes-n-end.ensures.count ∙ sym c.requires) c.loop-n-test.true in
    lines_more packet_lines c.args.network.now c.args.all.now c.loop-n.n name (string_bytes c.loop-n.text) (packet_lines name c.deref.result.now) (string_bytes c.add_packets.new.text)
    c.index-all-n.result c.loop-n.invariant (ap (packet_lines name) c.deref.ensures.value) c.node_name-name.ensures within c.index-all-n.is c.in_ok-add_packets.ensures
