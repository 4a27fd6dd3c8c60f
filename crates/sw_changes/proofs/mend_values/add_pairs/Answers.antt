use Rattle.std.proofs.Common.{map}
use Rattle.serde_json.specs.View.{view}
use Rattle.sw_changes.proofs.ToldMends.{all_behind, one_behind}
use Rattle.sw_changes.specs.MendValues.{pair_value}
use Rattle.sw_changes.proofs.mend_values.add_pairs.Goals as goal

pub loop-pair-preserved : goal.loop-pair-preserved
loop-pair-preserved c =
    one_behind (pair_value c.args.network.now) c.args.pairs.now c.loop-pair.pair-index (map view c.args.values.now.items) c.pair-item.result c.loop-pair.values.items c.add_value.new.values.items
    c.pair_value.result c.loop-pair.invariant c.loop-pair-test.true c.pair-item.is c.pair_value.ensures c.in_ok-add_value.ensures.added

pub returns : goal.returns
returns c =
    all_behind (pair_value c.args.network.now) c.args.pairs.now c.loop-pair.pair-index (map view c.args.values.now.items) c.loop-pair.values.items c.loop-pair.invariant c.loop-pair-test.false
