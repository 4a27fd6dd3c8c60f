use Rattle.std.proofs.Common.{ℕ, ap, length, subst, sym, ◌∙◌, ◌*◌, ◌+◌, ◌≡◌, ◌≤◌}
use Rattle.std.specs.Prelude.{slice_get, sum_by}
use Rattle.std.proofs.lemmas.List.{take_all}
use Rattle.sw_config.specs.Entries.{all_flows}
use Rattle.sw_load.specs.History.{packet_of}
use Rattle.sw_machine.specs.Begun.{length_with_reply}
use Rattle.sw_machine.specs.Model.{network_of}
use Rattle.sw_load.proofs.Packets.{length-packets, length_with_reply-entry, same-limit, sum-packets, weighed_more}
use Rattle.sw_load.proofs.Sends.{read_at}
use Rattle.sw_load.proofs.Weights.{declared_at, five_fit, flow_inside, limit_fits, little, more_fit, steps_fit, sum_fits, weighs, weighs_little}
use Rattle.sw_load.proofs.limit.enough_limit.Goals as goal

pub returns : goal.returns
unfolding network_of
returns c =
    let weight = length_with_reply (network_of c.args.network.now) in
    let entries = ap length c.packets-packet-items.ensures in
    let all = take_all c.loop-packet.packet-index c.args.load.now (subst (λ (n : ℕ). n ≤ c.loop-packet.packet-index) entries c.loop-packet-test.false) in
    let sum = c.loop-packet.invariant.sum ∙ ap (sum_by (λ p. p.count * weight (packet_of p))) all ∙ sym (sum-packets weight c.args.load.now) in
    let packets = c.from-packets.ensures ∙ c.total.ensures.count ∙ sym (length-packets c.args.load.now) in
    let channels = c.from-channels.ensures ∙ c.channels.ensures.ends in
    same-limit _ _ _ _ _ _ packets channels sum

pub loop-packet-preserved : goal.loop-packet-preserved
loop-packet-preserved c =
    let load = c.args.load.now in
    let i = c.loop-packet.packet-index in
    let p = c.packet-item.result in
    let weight = length_with_reply (network_of c.args.network.now) in
    let read = read_at c.packets-packet-items.result.now load i p c.packets-packet-items.ensures c.loop-packet-test.true c.packet-item.is in
    let declared = declared_at c.args.network.now load c.packets-packet-items.result.now i p c.requires c.packets-packet-items.ensures c.loop-packet-test.true c.packet-item.is in
    let at = ap (λ (n : ℕ). slice_get (all_flows c.args.network.now) n) (sym c.flow.ensures) ∙ c.flow-flow.ensures.flow in
    let whole = length_with_reply-entry c.args.network.now p c.flow-flow.result.now at in
    let address = ap length c.address.ensures in
    let cargo = ap length c.cargo-cargo.ensures in
    let reply = rw c.cargo-cargo.ensures at c.reply_length.ensures.length in
    let wide = c.from.ensures in
    let same : length c.address.result.now + length c.cargo-cargo.result.now + 1 + c.from.result ≡ weight (packet_of p) = weighs _ _ _ _ _ _ _ _ whole address cargo reply wide in
    let short = c.flow-flow.ensures.valid.address in
    let few = declared.few in
    let low = c.reply_length.ensures.few in
    let small : weight (packet_of p) ≤ 67108864 = weighs_little _ _ _ _ _ whole short few reply low in
    let more = weighed_more (λ q. weight (packet_of q)) load i p c.loop-packet.characters read.0 read.1 small c.loop-packet.invariant.sum c.loop-packet.invariant.few in
    rw (same, c.from-in-loop-packet.ensures, c.count.ensures) (record { sum = more.0; few = more.1 })

pub flow-flow-requires : goal.flow-flow-requires
flow-flow-requires c =
    flow_inside c.args.network.now c.args.load.now c.packets-packet-items.result.now c.loop-packet.packet-index c.packet-item.result c.requires c.packets-packet-items.ensures c.loop-packet-test.true c.packet-item.is c.flow.result c.flow.ensures

pub overflow_add-characters : goal.overflow_add-characters
overflow_add-characters c =
    let declared = declared_at c.args.network.now c.args.load.now c.packets-packet-items.result.now c.loop-packet.packet-index c.packet-item.result c.requires c.packets-packet-items.ensures c.loop-packet-test.true c.packet-item.is in
    let small = little _ _ _ _ _ c.from.result (ap length c.address.ensures) c.flow-flow.ensures.valid.address (ap length c.cargo-cargo.ensures) declared.few c.from.ensures c.reply_length.ensures.few in
    more_fit c.args.load.now c.loop-packet.packet-index c.total.result c.loop-packet.characters c.total.ensures.count c.total.ensures.few c.loop-packet.invariant.few
    c.from-in-loop-packet.result c.count.result _ c.from-in-loop-packet.ensures c.count.type_inv small

pub overflow_mul-result : goal.overflow_mul-result
overflow_mul-result c = five_fit c.args.load.now c.loop-packet.packet-index c.total.result c.loop-packet.characters c.total.ensures.count c.total.ensures.few c.loop-packet.invariant.few

pub overflow_mul-result-2 : goal.overflow_mul-result-2
overflow_mul-result-2 c = steps_fit c.args.load.now c.loop-packet.packet-index c.total.result c.loop-packet.characters c.total.ensures.count c.total.ensures.few c.loop-packet.invariant.few c.from-channels.result c.channels.result c.from-channels.ensures c.channels.type_inv

pub overflow_add-result : goal.overflow_add-result
overflow_add-result c = sum_fits c.args.load.now c.loop-packet.packet-index c.total.result c.loop-packet.characters c.total.ensures.count c.total.ensures.few c.loop-packet.invariant.few

pub overflow_add-result-2 : goal.overflow_add-result-2
overflow_add-result-2 c = limit_fits c.args.load.now c.loop-packet.packet-index c.total.result c.loop-packet.characters c.total.ensures.count c.total.ensures.few c.loop-packet.invariant.few c.from-packets.result c.from-channels.result c.channels.result c.from-packets.ensures c.from-channels.ensures c.channels.type_inv
