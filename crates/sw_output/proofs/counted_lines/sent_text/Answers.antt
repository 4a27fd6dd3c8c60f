use Rattle.std.proofs.Common.{◌≡◌, ◌<◌, ◌∙◌, ◌++◌, [], ℕ, ap, length, map, rules, string_bytes, subst, sym}
use Rattle.std.specs.Prelude.{slice_index_or}
use Rattle.sw_output.specs.ChannelTexts.{node_name}
use Rattle.sw_output.specs.PacketTexts.{by_node, node_line, undelivered_line}
use Rattle.sw_output.specs.Tallies.{counted_lines}
use Rattle.sw_output.proofs.NodeLines.{lines_added, parts_joined}
use Rattle.sw_output.proofs.counted_lines.sent_text.Goals as goal

pub loop-n-preserved : goal.loop-n-preserved
loop-n-preserved c =
    let name = c.node_name-name.result.now in
    let start = undelivered_line c.args.undelivered ++ by_node node_line c.args.network.now (map (λ packets. packets.items) c.args.all.now) in
    let within : c.loop-n.n < length c.args.all.now = subst (λ (k : ℕ). c.loop-n.n < k) (c.nodes-n-end.ensures.count ∙ sym c.requires) c.loop-n-test.true in
    lines_added counted_lines c.args.network.now c.args.all.now c.loop-n.n start name (string_bytes c.loop-n.text) (counted_lines name c.deref.result.now) (string_bytes c.add_counted.new.text)
    c.index-all-n.result c.loop-n.invariant (ap (counted_lines name) c.deref.ensures.value) c.node_name-name.ensures within c.index-all-n.is c.in_ok-add_counted.ensures

pub returns : goal.returns
returns c =
    let all : c.loop-n.n ≡ length c.args.network.now.nodes = search rules in
    parts_joined (λ n. counted_lines (node_name c.args.network.now n) (slice_index_or (map (λ packets. packets.items) c.args.all.now) n [])) (undelivered_line c.args.undelivered)
    (by_node node_line c.args.network.now (map (λ packets. packets.items) c.args.all.now)) (string_bytes c.loop-n.text) _ _ c.loop-n.invariant all
