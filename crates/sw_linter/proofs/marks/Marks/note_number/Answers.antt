use Rattle.std.proofs.Common.{◌<◌, ◌∙◌, ap, length, subst, sym}
use Rattle.std.specs.Prelude.{fold}
use Rattle.std.proofs.lemmas.List.{take_all}
use Rattle.sw_flow.specs.declared.place.Place.{Place}
use Rattle.sw_flow.specs.Places.{ends_of}
use Rattle.sw_linter.specs.FlowPlaces.{places_of_flow}
use Rattle.sw_linter.specs.Marks.{with_place}
use Rattle.sw_linter.proofs.Noting.{place_more, places_inside, same_noted}
use Rattle.sw_linter.proofs.marks.Marks.note_number.Goals as goal

pub note_place-requires : goal.note_place-requires
note_place-requires c =
    let d = c.args.network.now in
    subst (λ (p : Place). p.channel < length (ends_of d)) (sym c.place-item.is)
    (places_inside d c.in_ok-listed.ensures.flow _ _ c.in_ok-listed.ensures.list c.deref-place-items.ensures.value c.loop-place.place-index c.place-item.result c.loop-place-test.true)

pub loop-place-preserved : goal.loop-place-preserved
loop-place-preserved c =
    place_more c.args.network.now c.args.number c.flow-flow.result.now c.deref-place-items.result.now c.loop-place.place-index c.place-item.result c.loop-place-test.true c.place-item.is c.args.self.now c.loop-place.self _ c.loop-place.invariant
    c.note_place.ensures

pub returns : goal.returns
returns c =
    let d = c.args.network.now in
    let flow = c.flow-flow.result.now in
    let whole = ap (λ l. fold (with_place d) c.args.self.now (places_of_flow c.args.number flow l)) (take_all c.loop-place.place-index c.deref-place-items.result.now c.loop-place-test.false) in
    same_noted d c.args.number c.args.self.now _ flow _ _ c.in_ok-listed.ensures c.flow-flow.ensures.flow c.deref-place-items.ensures.value (c.loop-place.invariant ∙ whole)
