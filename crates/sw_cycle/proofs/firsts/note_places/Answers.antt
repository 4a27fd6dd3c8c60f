use Rattle.std.proofs.Common.{◌≡◌, ◌+◌, ℕ, ◌<◌, ◌↔◌, ◌∙◌, ◌++◌, ◌∷◌, [], Contains, List, Some, ap, length, sym, subst, take, arith}
use Rattle.std.specs.Prelude.{slice_get}
use Rattle.std.proofs.lemmas.List.{take_all, take_more}
use Rattle.std.proofs.lemmas.List.Elements.{Contains-get_or}
use Rattle.sw_flow.specs.declared.place.Place.{Place}
use Rattle.sw_flow.proofs.Stepping.{places_are_in}
use Rattle.sw_graph.specs.Rows.{row}
use Rattle.sw_graph.proofs.Listed.{row_read}
use Rattle.sw_cycle.proofs.firsts.note_places.Goals as goal

pub bounds-positions-from : goal.bounds-positions-from
bounds-positions-from c =
    let p = c.place-item.result in
    let listed = subst (λ (q : Place). Contains c.args.places.now q) (sym c.place-item.is) (Contains-get_or c.args.places.now c.loop-place.place-index p c.loop-place-test.true) in
    let inside = (places_are_in c.args.network.now c.args.flow.now p.channel p.deleted ((c.requires.places.member p).0 listed)).0 in
    omega (arith, inside, c.requires.count, c.from.ensures, c.number.ensures)

pub note_place-requires-clause-positions : goal.note_place-requires-clause-positions
note_place-requires-clause-positions c =
    let p = c.place-item.result in
    let rows = c.args.positions.now in
    let channels = c.args.channels.now in
    let v = c.index-positions-from.result in
    let listed = subst (λ (q : Place). Contains c.args.places.now q) (sym c.place-item.is) (Contains-get_or c.args.places.now c.loop-place.place-index p c.loop-place-test.true) in
    let inside = (places_are_in c.args.network.now c.args.flow.now p.channel p.deleted ((c.requires.places.member p).0 listed)).0 in
    let within : c.from.result < length rows = omega (arith, inside, c.requires.count, c.from.ensures, c.number.ensures) in
    let at : c.from.result ≡ p.channel = c.from.ensures ∙ c.number.ensures in
    let same : row rows p.channel ≡ c.deref.result.now = ap (row rows) (sym at) ∙ row_read rows c.from.result v within c.index-positions-from.is ∙ sym c.deref.ensures.value in
    subst (λ (l : List ℕ). (i : ℕ) → Contains l i ↔ ((i < length channels) × (slice_get channels i ≡ Some p.channel))) same (c.requires.positions p.channel)

pub loop-place-preserved : goal.loop-place-preserved
loop-place-preserved c =
    let i = c.loop-place.place-index in
    let xs = c.args.places.now in
    let p = c.place-item.result in
    let more : take (i + 1) xs ≡ take i xs ++ p ∷ [] = take_more xs i p c.loop-place-test.true ∙ ap (λ q. take i xs ++ q ∷ []) (sym c.place-item.is) in
    rw more (c.note_place.ensures (take i xs) c.loop-place.invariant)

pub loop-place-init : goal.loop-place-init
loop-place-init c = c.requires.first

pub note_place-requires-clause-place : goal.note_place-requires-clause-place
note_place-requires-clause-place c =
    let p = c.place-item.result in
    let listed = subst (λ (q : Place). Contains c.args.places.now q) (sym c.place-item.is) (Contains-get_or c.args.places.now c.loop-place.place-index p c.loop-place-test.true) in
    (c.requires.places.member p).0 listed

pub note_place-requires-clause-size : goal.note_place-requires-clause-size
note_place-requires-clause-size c = c.loop-place.invariant.size

pub returns : goal.returns
returns c = rw (take_all c.loop-place.place-index c.args.places.now c.loop-place-test.false) at c.loop-place.invariant
