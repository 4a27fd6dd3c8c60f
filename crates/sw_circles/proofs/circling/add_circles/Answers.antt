use Rattle.std.proofs.Common.{AllPairs, List, Vec, Global, map, refl, subst, sym, take, ◌≡◌, ◌∙◌, ◌++◌, ap, ℕ}
use Rattle.std.proofs.lemmas.List.{take_all}
use Rattle.sw_flow.specs.Places.{IsBefore}
use Rattle.sw_graph.proofs.Carried.{components_carry_over}
use Rattle.sw_graph.specs.Rows.{Leads}
use Rattle.sw_graph.specs.declared.component.Component.{Component}
use Rattle.sw_circles.specs.Circles.{GoesOn, channels_at, row_from}
use Rattle.sw_circles.specs.Circles.{ChannelsRise}
use Rattle.sw_circles.proofs.Numbers.{alike_rise}
use Rattle.sw_circles.proofs.Told.{alike_in_order, rows_graph, rows_lead}
use Rattle.sw_circles.proofs.circling.add_circles.Goals as goal

pub rows_of-requires-clause-rising : goal.rows_of-requires-clause-rising
rows_of-requires-clause-rising c =
    let list = c.requires.list in
    subst ChannelsRise (sym list.3) (alike_rise list.1 list.0 list.2.in_order)

pub components_of-requires-clause-graph : goal.components_of-requires-clause-graph
components_of-requires-clause-graph c =
    rows_graph c.args.network.now c.args.flow.now c.args.places.now c.deref.result.now (ap (map (λ (r : Vec ℕ Global). r.items)) c.deref.ensures.value ∙ c.in_ok-rows.ensures)

pub returns : goal.returns
returns c =
    let d = c.args.network.now in
    let f = c.args.flow.now in
    let places = c.args.places.now in
    let rows : map (λ (r : Vec ℕ Global). r.items) c.deref.result.now ≡ map (row_from d f places) places = ap (map (λ (r : Vec ℕ Global). r.items)) c.deref.ensures.value ∙ c.in_ok-rows.ensures in
    let list = c.requires.list in
    let order : AllPairs IsBefore places = subst (AllPairs IsBefore) (sym list.3) (alike_in_order list.1 list.0 list.2.in_order) in
    let all : take c.loop-component.component-index c.deref-component-items.result.now ≡ c.in_ok-found.found.items = take_all c.loop-component.component-index c.deref-component-items.result.now c.loop-component-test.false ∙ c.deref-component-items.ensures.value in (
      map (λ (it : Component). channels_at places it.cycle.items) c.in_ok-found.found.items,
      record {
        components = c.in_ok-found.found.items;
        are = components_carry_over (Leads c.deref.result.now) (GoesOn d f places) (rows_lead d f places c.deref.result.now rows order) c.in_ok-found.found.items c.in_ok-found.ensures;
        told = refl;
      },
      c.loop-component.invariant ∙ ap (λ (them : List Component). map (λ circle. circle.items) c.args.circles.now.items ++ map (λ (it : Component). channels_at places it.cycle.items) them) all,
    )
