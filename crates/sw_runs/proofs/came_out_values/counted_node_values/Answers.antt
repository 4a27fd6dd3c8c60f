use Rattle.std.proofs.Common.{◌<◌, ◌∙◌, ap, length, map, subst, sym}
use Rattle.serde_json.specs.View.{view}
use Rattle.sw_json.proofs.Added.{added}
use Rattle.sw_runs.specs.PacketValues.{counted_node_value}
use Rattle.sw_runs.proofs.NodeValues.{values_more}
use Rattle.sw_runs.proofs.came_out_values.counted_node_values.Goals as goal

pub loop-n-preserved : goal.loop-n-preserved
loop-n-preserved c =
    let within : c.loop-n.n < length c.args.all.now = subst (λ k. c.loop-n.n < k) (c.nodes-n-end.ensures.count ∙ sym c.requires) c.loop-n-test.true in
    values_more counted_node_value c.args.network.now c.args.all.now c.loop-n.n c.node_name-name.result.now (map view c.loop-n.values.items)
    (map view c.add_value.new.values.items) (counted_node_value c.node_name-name.result.now c.deref.result.now) c.index-all-n.result c.loop-n.invariant
    (ap (counted_node_value c.node_name-name.result.now) c.deref.ensures.value) c.node_name-name.ensures within c.index-all-n.is
    (added c.counted_node_value.result _ c.loop-n.values.items c.add_value.new.values.items c.counted_node_value.ensures c.in_ok-add_value.ensures.added)
