use Rattle.std.proofs.Common.{map}
use Rattle.serde_json.specs.View.{view}
use Rattle.sw_changes.proofs.ToldMends.{all_behind, one_read_behind}
use Rattle.sw_changes.specs.LimitingValues.{target_slots_value}
use Rattle.sw_changes.proofs.limiting_values.add_slots_values.Goals as goal

pub loop-more-preserved : goal.loop-more-preserved
loop-more-preserved c =
    one_read_behind (target_slots_value c.args.network.now) c.args.slots.now c.loop-more.more-index (map view c.args.values.now.items) _ c.loop-more.values.items c.add_value.new.values.items
    c.target_slots_value.result c.loop-more.invariant c.loop-more-test.true c.target_slots_value.ensures c.in_ok-add_value.ensures.added

pub returns : goal.returns
returns c =
    all_behind (target_slots_value c.args.network.now) c.args.slots.now c.loop-more.more-index (map view c.args.values.now.items) c.loop-more.values.items c.loop-more.invariant c.loop-more-test.false
