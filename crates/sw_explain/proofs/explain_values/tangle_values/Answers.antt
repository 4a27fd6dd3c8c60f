use Rattle.sw_json.proofs.Added.{all_made, one_more}
use Rattle.sw_explain.specs.ExplainValues.{tangle_value}
use Rattle.sw_explain.proofs.explain_values.tangle_values.Goals as goal

pub loop-tangle-preserved : goal.loop-tangle-preserved
loop-tangle-preserved c =
    one_more (tangle_value c.args.network.now) c.args.tangles.now c.loop-tangle.tangle-index c.tangle-item.result c.loop-tangle.values.items c.add_value.new.values.items
    c.tangle_value.result c.loop-tangle.invariant c.loop-tangle-test.true c.tangle-item.is c.tangle_value.ensures c.in_ok-add_value.ensures.added

pub returns : goal.returns
returns c = all_made (tangle_value c.args.network.now) c.args.tangles.now c.loop-tangle.tangle-index c.loop-tangle.values.items c.loop-tangle.invariant c.loop-tangle-test.false
