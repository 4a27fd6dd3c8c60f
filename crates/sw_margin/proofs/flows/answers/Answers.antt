use Rattle.std.proofs.Common.{false}
use Rattle.std.specs.Prelude.{slice_get}
use Rattle.std.specs.Option.{option_map_or}
use Rattle.sw_margin.specs.Bends.{IsAnswer, is_answerable}
use Rattle.sw_margin.proofs.Picked.{chosen_told, not_chosen}
use Rattle.sw_margin.proofs.flows.answers.Goals as goal

pub loop-flow-preserved : goal.loop-flow-preserved
loop-flow-preserved g c =
    let d = c.args.network.now in
    chosen_told (IsAnswer d) (λ i. option_map_or (is_answerable d) (slice_get d.flows i) false) c.loop-flow.flow c.loop-flow.told.items _ _ c.is_answerable.result c.loop-flow.invariant c.is_answerable.ensures c.if-not-is_answerable.false c.in_ok-told_of.ensures c.in_ok-push.ensures.items

pub loop-flow-preserved-then-not-is_answerable : goal.loop-flow-preserved-then-not-is_answerable
loop-flow-preserved-then-not-is_answerable g c =
    let d = c.args.network.now in
    not_chosen (IsAnswer d) (λ i. option_map_or (is_answerable d) (slice_get d.flows i) false) c.loop-flow.flow c.loop-flow.told.items c.is_answerable.result c.loop-flow.invariant c.is_answerable.ensures c.if-not-is_answerable.true
