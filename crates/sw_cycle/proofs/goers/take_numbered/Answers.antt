use Rattle.std.proofs.Common.{◌≡◌, ◌+◌, ◌++◌, ◌∷◌, [], ℕ, ◌<◌, ◌∙◌, Contains, List, true, ap, length, length-set, set, sym, subst, take, arith}
use Rattle.std.specs.Prelude.{IsTrue, ◌↔◌}
use Rattle.std.proofs.lemmas.List.{take_all, take_more}
use Rattle.std.proofs.lemmas.List.Elements.{Contains-get_or}
use Rattle.sw_flow.specs.declared.place.Place.{Place}
use Rattle.sw_flow.proofs.Stepping.{places_are_in}
use Rattle.sw_cycle.specs.Causes.{GoesOn}
use Rattle.sw_cycle.specs.Goers.{AreMarked}
use Rattle.sw_cycle.proofs.Chosen.{as_round}
use Rattle.sw_cycle.proofs.Taken.{marked_more, marked_none, taken_all, taken_at, taken_more, taken_none}
use Rattle.sw_cycle.proofs.goers.take_numbered.Goals as goal

pub loop-place-init : goal.loop-place-init
loop-place-init c = (marked_none c.in_ok-marks.marks.items, sym c.in_ok-marks.marks.ok.0 ∙ c.in_ok-marks.ensures.len ∙ c.from.ensures ∙ c.channels.ensures.ends)

pub index_mut-requires : goal.index_mut-requires
index_mut-requires c =
    let xs = c.flow_and_places.result.1.now in
    let p = c.place-item.result in
    let listed = subst (λ (q : Place). Contains xs q) (sym c.place-item.is) (Contains-get_or xs c.loop-place.place-index p c.loop-place-test.true) in
    let inside = (places_are_in c.args.network.now c.flow_and_places.result.0.now p.channel p.deleted ((c.flow_and_places.ensures.places.member p).0 listed)).0 in
    omega (arith, inside, c.loop-place.invariant.1, c.from-in-loop-place.ensures, c.number.ensures)

pub loop-place-preserved : goal.loop-place-preserved
loop-place-preserved c =
    let xs = c.flow_and_places.result.1.now in
    let i = c.loop-place.place-index in
    let p = c.place-item.result in
    let marks = c.loop-place.marks.items in
    let listed = subst (λ (q : Place). Contains xs q) (sym c.place-item.is) (Contains-get_or xs i p c.loop-place-test.true) in
    let inside = (places_are_in c.args.network.now c.flow_and_places.result.0.now p.channel p.deleted ((c.flow_and_places.ensures.places.member p).0 listed)).0 in
    let size = c.loop-place.invariant.1 in
    let within : p.channel < length marks = omega (arith, inside, size) in
    let at : c.from-in-loop-place.result ≡ p.channel = c.from-in-loop-place.ensures ∙ c.number.ensures in
    let more : take (i + 1) xs ≡ take i xs ++ p ∷ [] = take_more xs i p c.loop-place-test.true ∙ ap (λ q. take i xs ++ q ∷ []) (sym c.place-item.is) in
    let marked = subst (λ (l : List Place). AreMarked l (set marks p.channel true)) (sym more) (marked_more (take i xs) p marks c.loop-place.invariant.0 within) in
    (subst (λ (k : ℕ). AreMarked (take (i + 1) xs) (set marks k true)) (sym at) marked, length-set marks c.from-in-loop-place.result true ∙ size)

pub goes_on_from-goes-requires-clause-marked : goal.goes_on_from-goes-requires-clause-marked
goes_on_from-goes-requires-clause-marked c =
    let xs = c.flow_and_places.result.1.now in
    let marked : AreMarked xs c.loop-place.marks.items = rw (take_all c.loop-place.place-index xs (omega (arith, c.loop-place-test.false))) at c.loop-place.invariant.0 in
    rw c.deref.ensures.value marked

pub goes_on_from-goes-requires-clause-short : goal.goes_on_from-goes-requires-clause-short
goes_on_from-goes-requires-clause-short c = c.flow_and_places.ensures.short

pub goes_on_from-goes-requires-clause-numbered : goal.goes_on_from-goes-requires-clause-numbered
goes_on_from-goes-requires-clause-numbered c = c.flow_and_places.ensures.flow

pub goes_on_from-goes-requires-clause-places : goal.goes_on_from-goes-requires-clause-places
goes_on_from-goes-requires-clause-places c = c.flow_and_places.ensures.places

pub add_to_row-requires : goal.add_to_row-requires
add_to_row-requires c = subst (λ (n : ℕ). c.loop-step.step < n) (sym c.loop-step.invariant.size) c.loop-step-test.true

pub loop-step-init : goal.loop-step-init
loop-step-init c = taken_none c.args.network.now c.args.channels.now c.args.number c.args.flows.now c.requires.below

pub loop-step-preserved : goal.loop-step-preserved
loop-step-preserved c =
    let d = c.args.network.now in
    let channels = c.args.channels.now in
    let n = c.args.number in
    let i = c.loop-step.step in
    let goes = c.goes_on_from-goes.result in
    let from = c.index-channels-step-in-loop-step in
    let to = c.index-channels-step in
    let is = as_round d channels i from.result to.result c.loop-step-test.true from.is to.is (λ x y. IsTrue goes ↔ GoesOn d n x y) c.goes_on_from-goes.ensures in
    taken_more d channels n i c.loop-step.flows c.add_to_row.new.rows c.loop-step-test.true c.loop-step.invariant
    (taken_at d channels n i goes c.loop-step.flows c.add_to_row.new.rows is c.in_ok-add_to_row.ensures.added)

pub returns : goal.returns
returns c =
    taken_all c.args.network.now c.args.channels.now c.args.number c.loop-step.step c.loop-step.flows (let low = c.loop-step-test.false in let high = c.loop-step.auto.step-end in omega arith) c.loop-step.invariant
