use Rattle.std.proofs.Common.{ap, ◌∙◌}
use Rattle.std.proofs.lemmas.List.{take_all}
use Rattle.sw_char.specs.PacketView.{PacketView}
use Rattle.sw_summary.specs.Counts.{handled_as}
use Rattle.sw_summary.specs.Handlings.{handling_index, handling_of}
use Rattle.sw_summary.proofs.Counted.{none_more, one_more}
use Rattle.sw_summary.proofs.handling.handled_as.Goals as goal

pub loop-packet-preserved-then-index : goal.loop-packet-preserved-then-index
loop-packet-preserved-then-index c =
    none_more (λ (p : PacketView). handling_index (handling_of p.bytes)) (handling_index c.args.handling) c.args.packets.now c.loop-packet.packet-index c.packet-item.result c.loop-packet.count c.index.result
    c.index-in-loop-packet.result c.loop-packet-test.true c.loop-packet.invariant
    (c.index.ensures ∙ ap handling_index (c.handling_of.ensures ∙ ap handling_of (c.as_slice.ensures.value ∙ ap (λ (p : PacketView). p.bytes) (c.packet.view_is ∙ c.packet-item.is))))
    c.index-in-loop-packet.ensures c.if-index.true

pub loop-packet-preserved : goal.loop-packet-preserved
loop-packet-preserved c =
    one_more (λ (p : PacketView). handling_index (handling_of p.bytes)) (handling_index c.args.handling) c.args.packets.now c.loop-packet.packet-index c.packet-item.result c.loop-packet.count c.index.result
    c.index-in-loop-packet.result c.loop-packet-test.true c.loop-packet.invariant
    (c.index.ensures ∙ ap handling_index (c.handling_of.ensures ∙ ap handling_of (c.as_slice.ensures.value ∙ ap (λ (p : PacketView). p.bytes) (c.packet.view_is ∙ c.packet-item.is))))
    c.index-in-loop-packet.ensures c.if-index.false

pub returns : goal.returns
returns c = c.loop-packet.invariant.count ∙ ap (handled_as c.args.handling) (take_all c.loop-packet.packet-index c.args.packets.now c.loop-packet-test.false)
