use Rattle.std.proofs.Common.{◌∙◌, [], ap, rules, sym, take, ◌<◌, length}
use Rattle.std.proofs.lemmas.List.{take_all}
use Rattle.std.proofs.lemmas.List.Sums.{fold_more}
use Rattle.sw_output.specs.Tallies.{counted, tallies}
use Rattle.sw_output.proofs.Counts.{tallies_fit, tallies_rise}
use Rattle.sw_output.proofs.Order.{packet_order_total}
use Rattle.sw_output.proofs.tallies.tallies.Goals as goal

pub add-requires-clause-rising : goal.add-requires-clause-rising
add-requires-clause-rising c = rw c.loop-packet.invariant (tallies_rise packet_order_total (take c.loop-packet.packet-index c.args.packets.now))

pub add-requires-clause-few : goal.add-requires-clause-few
add-requires-clause-few c =
    let fits : length c.args.packets.now < 18446744073709551616 = search rules in
    rw c.loop-packet.invariant (tallies_fit packet_order_total c.args.packets.now c.loop-packet.packet-index 18446744073709551616 c.loop-packet-test.true fits)

pub loop-packet-preserved : goal.loop-packet-preserved
loop-packet-preserved c =
    c.in_ok-add.ensures ∙ ap (counted c.packet-item.result) c.loop-packet.invariant
    ∙ ap (λ p. counted p (tallies (take c.loop-packet.packet-index c.args.packets.now))) c.packet-item.is
    ∙ sym (fold_more (λ ts p. counted p ts) [] c.args.packets.now c.loop-packet.packet-index c.packet-item.result c.loop-packet-test.true)

pub returns : goal.returns
returns c = c.loop-packet.invariant ∙ ap tallies (take_all c.loop-packet.packet-index c.args.packets.now c.loop-packet-test.false)
