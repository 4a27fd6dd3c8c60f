use Rattle.std.proofs.Common.{◌∙◌, ◌+◌, ◌++◌, ap, map, sym, take}
use Rattle.std.proofs.lemmas.List.{take_all}
use Rattle.sw_char.specs.Packets.{chars, chars_of}
use Rattle.sw_char.specs.declared.nchar.NChar.TheVariants.{Data}
use Rattle.sw_node.proofs.Characters.{chars_more}
use Rattle.sw_node.proofs.cell.NodeCell.taken.Goals as goal
use Rattle.sw_node.specs.Node.{Node, packet_chars}

pub loop-packet-preserved : goal.loop-packet-preserved
loop-packet-preserved c =
    let i = c.loop-packet.packet-index in
    let p = c.packet-item.result in
    let all = c.deref-packet-items.ensures.value ∙ ap (λ (n : Node). n.packets) c.self.view_is in
    let before = c.loop-packet.chars.items in
    c.in_ok-push_chars.ensures
    ∙ ap (λ bytes. before ++ packet_chars bytes c.packet.inside.end) c.deref.ensures.value
    ∙ ap (λ q. before ++ chars_of q) c.packet.view_is
    ∙ ap (λ x. x ++ chars_of p) (c.loop-packet.invariant ∙ ap (λ ps. chars (take i ps)) (sym all))
    ∙ sym (chars_more c.deref-packet-items.result.now i p c.loop-packet-test.true c.packet-item.is)
    ∙ ap (λ ps. chars (take (i + 1) ps)) all

pub returns : goal.returns
returns c =
    let i = c.loop-packet.packet-index in
    let all = c.deref-packet-items.ensures.value ∙ ap (λ (n : Node). n.packets) c.self.view_is in
    let bytes = c.deref-2.ensures.value ∙ ap (λ (n : Node). n.bytes) c.self.view_is in
    let walked = c.loop-packet.invariant ∙ ap chars (ap (take i) (sym all) ∙ take_all i c.deref-packet-items.result.now c.loop-packet-test.false ∙ all) in
    c.in_ok-push_data.ensures ∙ ap (λ b. c.loop-packet.chars.items ++ map Data b) bytes ∙ ap (λ x. x ++ map Data c.args.self.now.bytes) walked
