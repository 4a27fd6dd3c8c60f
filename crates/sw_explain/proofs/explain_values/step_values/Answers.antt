use Rattle.std.proofs.Common.{map}
use Rattle.serde_json.specs.View.{view}
use Rattle.sw_json.proofs.Added.{added}
use Rattle.sw_explain.proofs.StepValues.{all_steps, steps_more}
use Rattle.sw_explain.proofs.explain_values.step_values.Goals as goal

pub loop-i-preserved : goal.loop-i-preserved
loop-i-preserved c =
    steps_more c.args.network.now c.loop-i.i c.args.channels.now c.args.causes.now c.args.flows.now c.index-channels-i.result c.index-causes-i.result c.index-flows-i.result
    c.deref.result.now (map view c.loop-i.values.items) (map view c.add_value.new.values.items) c.loop-i-test.true c.requires.caused c.requires.made
    c.index-channels-i.is c.index-causes-i.is c.index-flows-i.is c.deref.ensures.value c.loop-i.invariant
    (added c.step_value-value.result _ c.loop-i.values.items c.add_value.new.values.items c.step_value-value.ensures c.in_ok-add_value.ensures.added)

pub returns : goal.returns
returns c =
    all_steps c.args.network.now c.loop-i.i c.args.channels.now c.args.causes.now c.args.flows.now (map view c.loop-i.values.items) c.loop-i-test.false
    c.requires.caused c.requires.made c.loop-i.invariant
