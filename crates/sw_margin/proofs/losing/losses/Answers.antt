use Rattle.std.proofs.Common.{◌≡◌, ◌≤◌, List, ℕ, Vec, Global, length, get_or, sym, ap, ◌∙◌, subst, arith, ◌+◌}
use Rattle.std.proofs.lemmas.Slice.Zip.{AllZip-long}
use Rattle.sw_config.specs.Entries.{all_flows}
use Rattle.sw_search.proofs.Naming.{listed_at}
use Rattle.sw_flow.specs.declared.place.Place.{Place}
use Rattle.sw_flow.specs.Places.{IsPlaceList}
use Rattle.sw_graph.proofs.RelationSteps.{whole}
use Rattle.sw_margin.specs.Needs.{AreLossesOf}
use Rattle.sw_margin.proofs.LinkRows.{losses_all, losses_more}
use Rattle.sw_margin.proofs.losing.losses.Goals as goal

pub bounds-places-from : goal.bounds-places-from
bounds-places-from c =
    let d = c.args.network.now in
    let long = AllZip-long (λ f ps. IsPlaceList d f ps.items) (all_flows d) c.args.places.now c.requires in
    omega (arith, long, c.from-in-loop-number.ensures, c.loop-number-test.true, c.flows-number-end.ensures.count)

pub needed_links-requires-clause-list : goal.needed_links-requires-clause-list
needed_links-requires-clause-list c =
    let d = c.args.network.now in
    let n = c.loop-number.number in
    let listed = c.index-places-from.result in
    let at : listed ≡ get_or c.args.places.now n listed = c.index-places-from.is ∙ ap (λ i. get_or c.args.places.now i listed) c.from-in-loop-number.ensures in
    subst (λ (l : List Place). IsPlaceList d c.flow.result.now l) (sym c.deref.ensures.value) (listed_at d (all_flows d) c.args.places.now n c.flow.result.now listed c.requires c.flow.ensures.flow at)

pub loop-number-preserved : goal.loop-number-preserved
loop-number-preserved c =
    let d = c.args.network.now in
    let n = c.loop-number.number in
    let before = c.loop-number.losses.items in
    let new = c.add_flow.new.losses in
    let marks = c.in_ok-marks.marks.items in
    let added = rw (c.deref_mut.ensures.value, c.deref-in-loop-number.ensures.value) at c.in_ok-add_flow.ensures in
    let size : length new ≡ length before = added.size in
    let e = whole c.loop-number.losses.len new before c.loop-number.losses.ok.0 size in
    subst (λ (g : List (Vec ℕ Global)). AreLossesOf d (n + 1) g) (sym e)
    (losses_more d n c.flow.result.now marks before new c.flow.ensures.flow c.in_ok-marks.ensures c.loop-number.invariant added)

pub returns : goal.returns
returns c =
    let d = c.args.network.now in
    let all : length (all_flows d) ≤ c.loop-number.number = omega (arith, c.loop-number-test.false, c.flows-number-end.ensures.count) in
    losses_all d c.loop-number.number c.loop-number.losses.items all c.loop-number.invariant
