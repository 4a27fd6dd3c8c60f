use Rattle.std.proofs.Common.{List, ap, map, string_bytes, ◌∙◌, ◌≡◌}
use Rattle.sw_char.specs.PacketView.{PacketView}
use Rattle.sw_summary.specs.Counts.{all_items, all_replies, asked_before, asked_by, items_at, items_before}
use Rattle.sw_summary.specs.KeyCounts.{KeyCountView, found, taken_all}
use Rattle.sw_summary.proofs.FlowSteps.{flow_counted, rest_rises, written_back}
use Rattle.sw_summary.proofs.Lists.{items_in}
use Rattle.sw_summary.proofs.flow_lines.add_flows.Goals as goal

pub found_packets-delivered-requires : goal.found_packets-delivered-requires
found_packets-delivered-requires c =
    rest_rises (all_items (map items_in c.args.out.now)) (items_before c.args.network.now c.args.begun.now c.loop-i.i) c.loop-i.packets.items c.deref_mut.result.now c.loop-i.invariant.packets_left
    c.deref_mut.ensures.value

pub found_replies-answered-requires : goal.found_replies-answered-requires
found_replies-answered-requires c =
    rest_rises (all_replies (map items_in c.args.out.now)) (asked_before c.args.network.now c.args.begun.now c.loop-i.i) c.loop-i.replies.items c.deref_mut-in-loop-i.result.now
    c.loop-i.invariant.replies_left c.deref_mut-in-loop-i.ensures.value

pub loop-i-preserved : goal.loop-i-preserved
loop-i-preserved c =
    let begun = c.args.begun.now in
    let f = c.declared_flow-flow.result.now in
    let to = c.to.result in
    let ps = c.loop-i.packets.items in
    let rs = c.loop-i.replies.items in
    let first = c.deref.result.now in
    let second = c.deref-in-loop-i.result.now in
    let all = c.in_ok-all.all.items in
    let came : c.found_packets-delivered.result ≡ found ps (items_at to all) =
    c.found_packets-delivered.ensures.count ∙ ap (λ (ts : List KeyCountView). found ts (items_at to first)) c.deref_mut.ensures.value
    ∙ ap (λ (l : List PacketView). found ps (items_at to l)) c.deref.ensures.value
    in
    let answers : c.found_replies-answered.result ≡ found rs (asked_by f all f.reply) =
    c.found_replies-answered.ensures.count ∙ ap (λ (ts : List KeyCountView). found ts (asked_by f second f.reply)) c.deref_mut-in-loop-i.ensures.value
    ∙ ap (λ (l : List PacketView). found rs (asked_by f l f.reply)) c.deref-in-loop-i.ensures.value
    in
    let left =
    written_back ps c.deref_mut.result.now c.found_packets-delivered.new.key_counts c.loop-i.packets.len (items_at to all) c.deref_mut.ensures.value
    (c.found_packets-delivered.ensures.rest ∙ ap (λ (l : List PacketView). taken_all c.deref_mut.result.now (items_at to l)) c.deref.ensures.value) c.loop-i.packets.ok.0
    in
    let rest =
    written_back rs c.deref_mut-in-loop-i.result.now c.found_replies-answered.new.replies c.loop-i.replies.len (asked_by f all f.reply) c.deref_mut-in-loop-i.ensures.value
    (c.found_replies-answered.ensures.rest ∙ ap (λ (l : List PacketView). taken_all c.deref_mut-in-loop-i.result.now (asked_by f l f.reply)) c.deref-in-loop-i.ensures.value) c.loop-i.replies.ok.0
    in
    flow_counted c.args.network.now c.args.load.now begun (map items_in c.args.out.now) c.loop-i.i
    (string_bytes c.args.text.now) (string_bytes c.loop-i.text) (string_bytes c.add_line.new.text) f all ps rs _ _ to c.len.result c.found_packets-delivered.result c.found_replies-answered.result
    c.loop-i.invariant c.declared_flow-flow.ensures.flow c.in_ok-all.ensures c.to.ensures (c.len.ensures ∙ c.in_ok-all.all.ok.0) came left answers rest c.in_ok-add_line.ensures
