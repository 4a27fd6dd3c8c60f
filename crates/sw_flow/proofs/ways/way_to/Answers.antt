use Rattle.std.proofs.Common.{◌<◌, ℕ, All, Some, length, option_map, sym, subst, ap, ◌∙◌, arith}
use Rattle.sw_flow.specs.Numbers.{next_numbers}
use Rattle.sw_flow.proofs.Stepping.{all_below, bound_is, places_are_in}
use Rattle.sw_flow.proofs.Going.{no_place, all_few, is_way}
use Rattle.sw_flow.proofs.ways.way_to.Goals as goal

pub returns-then-deleted-width : goal.returns-then-deleted-width
returns-then-deleted-width c = rw c.flow-flow.ensures.flow (λ is.
    let in_flow = (places_are_in c.args.network.now c.flow-flow.result.now c.args.place.channel c.args.place.deleted is).1 in
    absurd (omega (arith, in_flow, ap length c.address.ensures, c.if-deleted-width.true)))

pub way-requires-clause-inside : goal.way-requires-clause-inside
way-requires-clause-inside c =
    let d = c.args.network.now in
    let f = c.flow-flow.result.now in
    let bound = bound_is d f c.channels.result c.topology-topology.result.now c.address.result.now c.channels.ensures.channels c.topology-topology.ensures.wiring c.address.ensures in
    λ n lt. subst (λ (b : ℕ). All (λ x. x < b) (next_numbers d f n)) (sym bound) (all_below d f n)

pub returns-in-None : goal.returns-in-None
returns-in-None c =
    rw c.flow-flow.ensures.flow (no_place c.args.network.now c.flow-flow.result.now c.topology-topology.result.now c.out-start.result c.number-2.result c.from.result c.number.result c.args.place c.address.result.now c.topology-topology.ensures.wiring c.from.ensures c.out-start.ensures.channel c.address.ensures c.number-2.ensures c.number.ensures (omega (arith, c.if-deleted-width.false))
    (option_map (λ v. v.items) c.in_ok-way.field-0) (ap (option_map (λ v. v.items)) c.in-None.is) c.in_ok-way.ensures)

pub places_of-requires-clause-below : goal.places_of-requires-clause-below
places_of-requires-clause-below c =
    all_few c.args.network.now c.flow-flow.result.now c.topology-topology.result.now c.out-start.result c.number-2.result c.from.result c.number.result c.args.place c.address.result.now c.topology-topology.ensures.wiring c.from.ensures c.out-start.ensures.channel c.address.ensures c.number-2.ensures c.number.ensures (omega (arith, c.if-deleted-width.false))
    c.out-start.ensures.within (omega arith)
    (option_map (λ v. v.items) c.in_ok-way.field-0) c.deref.result.now (ap (option_map (λ v. v.items)) c.in-Some.is ∙ ap Some (sym c.deref.ensures.value)) c.in_ok-way.ensures

pub returns-in_ok-places_of-in-Some : goal.returns-in_ok-places_of-in-Some
returns-in_ok-places_of-in-Some c =
    rw c.flow-flow.ensures.flow (is_way c.args.network.now c.flow-flow.result.now c.topology-topology.result.now c.out-start.result c.number-2.result c.from.result c.number.result c.args.place c.address.result.now c.topology-topology.ensures.wiring c.from.ensures c.out-start.ensures.channel c.address.ensures c.number-2.ensures c.number.ensures (omega (arith, c.if-deleted-width.false))
    (option_map (λ v. v.items) c.in_ok-way.field-0) c.deref.result.now c.in_ok-places_of-in-Some.field-0.items (ap (option_map (λ v. v.items)) c.in-Some.is ∙ ap Some (sym c.deref.ensures.value)) c.in_ok-way.ensures c.in_ok-places_of-in-Some.ensures)
