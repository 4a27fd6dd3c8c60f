use Rattle.std.proofs.Common.{◌≡◌, List, ℕ, ◌∙◌, ◌+◌, ◌++◌, ◌∷◌, [], ap, sym, take}
use Rattle.std.proofs.lemmas.List.{take_all, take_more}
use Rattle.sw_char.specs.PacketView.{PacketView}
use Rattle.sw_node.proofs.cell.NodeCell.came_out.Goals as goal
use Rattle.sw_node.specs.Node.{Node}

pub loop-packet-preserved : goal.loop-packet-preserved
loop-packet-preserved c =
    let i = c.loop-packet.packet-index in
    let packet = c.packet-item.result in
    let packets = c.deref-packet-items.result.now in
    let all = c.deref-packet-items.ensures.value ∙ ap (λ (n : Node). n.packets) c.self.view_is in
    let before = c.loop-packet.packets.items in
    let ended : List ℕ → PacketView = λ bytes. record { bytes = bytes; end = c.packet.inside.end } in
    let pushed : c.push.new.self.items ≡ before ++ ended c.in_ok-bytes.bytes.items ∷ [] = c.in_ok-push.ensures.items in
    pushed
    ∙ ap (λ bytes. before ++ ended bytes ∷ []) (c.in_ok-bytes.ensures.items ∙ c.as_slice.ensures.value)
    ∙ ap (λ p. before ++ p ∷ []) c.packet.view_is
    ∙ ap (λ ps. ps ++ packet ∷ []) (c.loop-packet.invariant ∙ ap (take i) (sym all))
    ∙ ap (λ p. take i packets ++ p ∷ []) c.packet-item.is
    ∙ sym (take_more packets i packet c.loop-packet-test.true)
    ∙ ap (take (i + 1)) all

pub returns : goal.returns
returns c =
    let i = c.loop-packet.packet-index in
    let all = c.deref-packet-items.ensures.value ∙ ap (λ (n : Node). n.packets) c.self.view_is in
    c.loop-packet.invariant ∙ ap (take i) (sym all) ∙ take_all i c.deref-packet-items.result.now c.loop-packet-test.false ∙ all
