use Rattle.sw_json.specs.PlaceValues.{flow_name_value}
use Rattle.sw_json.proofs.Added.{all_made, one_more_at, spelled}
use Rattle.sw_json.proofs.lists.flow_name_values.Goals as goal

pub loop-flow-preserved : goal.loop-flow-preserved
loop-flow-preserved c =
    one_more_at (flow_name_value c.args.network.now) c.args.flows.now c.loop-flow.flow-index _ c.loop-flow.values.items c.add_value.new.values.items
    c.try_from_str.result c.loop-flow.invariant c.loop-flow-test.true (spelled _ _ _ c.try_from_str.ensures c.flow_name.ensures) c.in_ok-add_value.ensures.added

pub returns : goal.returns
returns c = all_made (flow_name_value c.args.network.now) c.args.flows.now c.loop-flow.flow-index c.loop-flow.values.items c.loop-flow.invariant c.loop-flow-test.false
