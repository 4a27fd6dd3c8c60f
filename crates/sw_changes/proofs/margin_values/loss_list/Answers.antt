use Rattle.std.proofs.Common.{◌∙◌, ap, map}
use Rattle.std.proofs.lemmas.List.{take_all}
use Rattle.serde_json.specs.View.{view}
use Rattle.sw_json.proofs.Added.{added}
use Rattle.sw_changes.specs.MarginValues.{loss_values}
use Rattle.sw_changes.proofs.LossValues.{losses_more}
use Rattle.sw_changes.proofs.margin_values.loss_list.Goals as goal

pub loop-link-preserved : goal.loop-link-preserved
loop-link-preserved c =
    losses_more c.args.network.now c.loop-link.link c.args.losses.now c.index-losses-link.result c.deref.result.now (map view c.loop-link.values.items)
    (map view c.add_value.new.values.items) c.loop-link-test.true c.index-losses-link.is c.deref.ensures.value c.loop-link.invariant
    (added c.loss_value.result _ c.loop-link.values.items c.add_value.new.values.items c.loss_value.ensures c.in_ok-add_value.ensures.added)

pub returns : goal.returns
returns c =
    c.loop-link.invariant
    ∙ ap (λ l. loss_values c.args.network.now 0 (map (λ flows. flows.items) l)) (take_all c.loop-link.link c.args.losses.now c.loop-link-test.false)
