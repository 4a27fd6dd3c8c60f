use Rattle.sw_json.proofs.Added.{all_made, one_more}
use Rattle.sw_runs.specs.PacketValues.{tally_value}
use Rattle.sw_runs.proofs.came_out_values.tally_values.Goals as goal

pub loop-tally-preserved : goal.loop-tally-preserved
loop-tally-preserved c =
    one_more tally_value c.args.all.now c.loop-tally.tally-index c.tally-item.result c.loop-tally.values.items c.add_value.new.values.items
    c.tally_value.result c.loop-tally.invariant c.loop-tally-test.true c.tally-item.is c.tally_value.ensures c.in_ok-add_value.ensures.added

pub returns : goal.returns
returns c = all_made tally_value c.args.all.now c.loop-tally.tally-index c.loop-tally.values.items c.loop-tally.invariant c.loop-tally-test.false
