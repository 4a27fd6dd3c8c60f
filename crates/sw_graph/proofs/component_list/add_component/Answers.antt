use Rattle.std.proofs.Common.{◌∙◌, Bool, length, ap, refl, sym, arith}
use Rattle.std.proofs.lemmas.List.Folds.{list_any_at}
use Rattle.sw_graph.specs.declared.component.Component.{Component}
use Rattle.sw_graph.specs.Rows.{Leads}
use Rattle.sw_graph.specs.Walks.{holds}
use Rattle.sw_graph.proofs.Loops.{none_read}
use Rattle.sw_graph.proofs.Places.{held_in}
use Rattle.sw_graph.proofs.Grouped.{among_rows, components_free, components_taken, least_of, leads_of, no_round, untaken}
use Rattle.sw_graph.proofs.component_list.add_component.Goals as goal

pub loop-component-init : goal.loop-component-init
loop-component-init c = refl

pub loop-component-preserved : goal.loop-component-preserved
loop-component-preserved c =
    let component = c.component-item.result in
    let told = held_in component.members.items c.deref.result.now c.args.c _ _ c.deref.ensures.value c.contains.ensures.value c.if-contains.false in
    let test : Component → Bool = λ p. holds p.members.items c.args.c in
    none_read test c.deref-component-items.result.now c.loop-component.component-index component (test component) c.loop-component-test.true c.loop-component.invariant (ap test c.component-item.is) told

pub returns-then-contains : goal.returns-then-contains
returns-then-contains c =
    let component = c.component-item.result in
    let told = held_in component.members.items c.deref.result.now c.args.c _ _ c.deref.ensures.value c.contains.ensures.value c.if-contains.true in
    let test : Component → Bool = λ p. holds p.members.items c.args.c in
    let one = list_any_at test c.deref-component-items.result.now c.loop-component.component-index component c.loop-component-test.true (ap test (sym c.component-item.is) ∙ told) in
    components_taken (Leads c.args.successors.now) c.args.c c.args.components.now.items c.requires.below (rw c.deref-component-items.ensures.value at one)

pub push_component-requires-clause-fewest : goal.push_component-requires-clause-fewest
push_component-requires-clause-fewest c = (rw c.in-Some.is at c.in_ok-count.ensures).1

pub push_component-requires-clause-least : goal.push_component-requires-clause-least
push_component-requires-clause-least c =
    let dep = Leads c.args.successors.now in
    let fewest = (rw c.in-Some.is at c.in_ok-count.ensures).1 in
    least_of dep c.args.c c.args.components.now.items c.requires.below (untaken c.args.c c.args.components.now.items c.deref-component-items.result.now c.loop-component.component-index c.deref-component-items.ensures.value c.loop-component-test.false c.loop-component.invariant) (leads_of dep c.args.c c.args.c c.in-Some.count fewest)

pub push_component-requires-clause-untaken : goal.push_component-requires-clause-untaken
push_component-requires-clause-untaken c = untaken c.args.c c.args.components.now.items c.deref-component-items.result.now c.loop-component.component-index c.deref-component-items.ensures.value c.loop-component-test.false c.loop-component.invariant

pub returns-in-None : goal.returns-in-None
returns-in-None c =
    let g = c.args.successors.now in
    let none = rw c.in-None.is at c.in_ok-count.ensures in
    components_free (Leads g) c.args.c c.args.components.now.items c.requires.below (no_round (Leads g) (length g) c.args.c (among_rows g c.requires.graph) (λ i lt h. none i (omega arith) h))
