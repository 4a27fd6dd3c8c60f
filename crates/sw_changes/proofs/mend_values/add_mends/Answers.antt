use Rattle.std.proofs.Common.{map}
use Rattle.serde_json.specs.View.{view}
use Rattle.sw_changes.proofs.ToldMends.{all_behind, one_behind}
use Rattle.sw_changes.specs.MendValues.{mend_value}
use Rattle.sw_changes.proofs.mend_values.add_mends.Goals as goal

pub loop-change-preserved : goal.loop-change-preserved
loop-change-preserved c =
    one_behind (mend_value c.args.network.now) c.args.changes.now c.loop-change.change-index (map view c.args.values.now.items) c.change-item.result c.loop-change.values.items c.add_value.new.values.items
    c.mend_value.result c.loop-change.invariant c.loop-change-test.true c.change-item.is c.mend_value.ensures c.in_ok-add_value.ensures.added

pub returns : goal.returns
returns c =
    all_behind (mend_value c.args.network.now) c.args.changes.now c.loop-change.change-index (map view c.args.values.now.items) c.loop-change.values.items c.loop-change.invariant c.loop-change-test.false
