use Rattle.std.proofs.Common.{[], ◌∷◌}
use Rattle.std.specs.Prelude.{codes}
use Rattle.std.specs.List.{flat_map}
use Rattle.sw_app.specs.RouteTexts.{outcome_line, place_line}
use Rattle.sw_output.proofs.EachLine.{all_added, line_added}
use Rattle.sw_output.specs.FlowTexts.{flow_name}
use Rattle.sw_output.specs.Lines.{line}
use Rattle.sw_app.proofs.RouteLines.{first_line, last_line}
use Rattle.sw_app.proofs.route_texts.route_text.Goals as goal

pub loop-place-init : goal.loop-place-init
loop-place-init c =
    first_line c.args.network.now c.args.flow c.flow.result.now (place_line c.args.network.now) c.args.places.now _ _ c.flow.ensures.flow c.name-name.ensures
    c.in_ok-text.ensures.ok

pub loop-place-preserved : goal.loop-place-preserved
loop-place-preserved c =
    line_added (place_line c.args.network.now) c.args.places.now c.loop-place.place-index c.place-item.result
    (line (codes "flow" ∷ flow_name c.args.network.now c.args.flow ∷ [])) _ _ c.loop-place-test.true c.place-item.is c.loop-place.invariant c.in_ok-add_place.ensures

pub returns : goal.returns
returns c =
    let first = line (codes "flow" ∷ flow_name c.args.network.now c.args.flow ∷ []) in
    let lines = flat_map (place_line c.args.network.now) c.args.places.now in
    last_line first lines (outcome_line c.args.fault) _ _ (all_added (place_line c.args.network.now) c.args.places.now c.loop-place.place-index first _ c.loop-place-test.false c.loop-place.invariant)
    c.in_ok-add_outcome.ensures
