use Rattle.std.proofs.Common.{◌≡◌, ◌<◌, ◌∙◌, [], List, None, Option, Vec, Global, ℕ, length, replicate, ap, sym, subst, arith, rules}
use Rattle.sw_cycle.specs.Positions.{ArePositions}
use Rattle.sw_cycle.specs.declared.steps.PlaceStep.{PlaceStep}
use Rattle.sw_cycle.specs.Firsts.{AreFirst, NoneYet}
use Rattle.sw_cycle.proofs.Found.{all_looked_at, flow_begun, flow_more, none_first}
use Rattle.sw_cycle.proofs.firsts.first_steps.Goals as goal
use Rattle.sw_topo.proofs.Lists.{whole}

pub loop-number-init : goal.loop-number-init
loop-number-init c =
    let channels = c.args.channels.now in
    let blank : c.in_ok-steps.steps.items ≡ replicate (length channels) None = search rules in
    none_first c.args.network.now channels c.in_ok-steps.steps.items blank

pub flow_and_places-requires-clause-inside : goal.flow_and_places-requires-clause-inside
flow_and_places-requires-clause-inside c = subst (λ (n : ℕ). c.loop-number.number < n) c.flows-number-end.ensures.count c.loop-number-test.true

pub note_places-requires-clause-first : goal.note_places-requires-clause-first
note_places-requires-clause-first c =
    let d = c.args.network.now in
    let n = c.loop-number.number in
    let f = c.flow_and_places.result.0.now in
    let channels = c.args.channels.now in
    subst (λ (l : List (Option PlaceStep)). AreFirst d (NoneYet d n f []) channels l) (sym c.deref_mut.ensures.value) (flow_begun d n f channels c.loop-number.steps.items c.loop-number.invariant)

pub note_places-requires-clause-positions : goal.note_places-requires-clause-positions
note_places-requires-clause-positions c =
    let channels = c.args.channels.now in
    subst (λ (rows : List (Vec ℕ Global)). ArePositions channels (length channels) rows) (sym c.deref.ensures.value) c.in_ok-positions.ensures.positions

pub note_places-requires-clause-count : goal.note_places-requires-clause-count
note_places-requires-clause-count c = ap length c.deref.ensures.value ∙ c.in_ok-positions.ensures.size ∙ c.from.ensures ∙ c.channels.ensures.ends

pub loop-number-preserved : goal.loop-number-preserved
loop-number-preserved c =
    let steps = c.loop-number.steps in
    let new = c.note_places.new.steps in
    let flow = c.flow_and_places.result in
    let is = c.flow_and_places.ensures in
    let size : length new ≡ length steps.items = c.note_places.auto.steps ∙ ap length c.deref_mut.ensures.value in
    rw (whole steps.len new steps.items steps.ok.0 size) (flow_more c.args.network.now c.loop-number.number flow.0.now flow.1.now c.args.channels.now new is.flow is.places c.note_places.ensures)

pub returns : goal.returns
returns c =
    all_looked_at c.args.network.now c.loop-number.number c.args.channels.now c.loop-number.steps.items (omega (arith, c.loop-number-test.false, c.flows-number-end.ensures.count)) c.loop-number.invariant
