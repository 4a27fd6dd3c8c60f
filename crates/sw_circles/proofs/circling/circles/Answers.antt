use Rattle.std.proofs.Common.{arith, length, map, subst, sym, ◌∙◌, ◌≤◌}
use Rattle.sw_circles.specs.Circles.{with_deleted}
use Rattle.sw_circles.proofs.Few.{few}
use Rattle.sw_circles.proofs.Found.{one_layer}
use Rattle.sw_circles.proofs.circling.circles.Goals as goal

pub add_circles-requires-clause-few : goal.add_circles-requires-clause-few
add_circles-requires-clause-few c =
    let most : length (with_deleted c.loop-deleted.deleted c.args.places.now) ≤ 65535 = few c.args.network.now c.args.flow.now c.loop-deleted.deleted c.args.places.now (omega (arith, c.channels-channels.ensures.ends, c.channels-channels.ensures.few)) c.requires.list in
    let is = c.deref.ensures.value ∙ c.in_ok-alike.ensures in
    subst (λ them. length them ≤ 65535) (sym is) most

pub loop-deleted-preserved : goal.loop-deleted-preserved
loop-deleted-preserved c =
    let before = c.loop-deleted.invariant in
    let added = c.in_ok-add_circles.ensures in
    one_layer c.args.network.now c.args.flow.now c.args.places.now c.deref.result.now c.loop-deleted.deleted before.0 added.0 (map (λ circle. circle.items) c.add_circles.new.circles.items) _ before.1 before.2 (c.deref.ensures.value ∙ c.in_ok-alike.ensures) added.1 added.2
