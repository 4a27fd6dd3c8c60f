use Rattle.std.proofs.Common.{◌<◌, length}
use Rattle.std.proofs.lemmas.List.Elements.{All-contains}
use Rattle.sw_graph.specs.Rows.{Leads}
use Rattle.sw_graph.proofs.Listed.{reversed_graph}
use Rattle.sw_graph.specs.Components.{AreTogether}
use Rattle.sw_graph.specs.declared.component.Component.{Component}
use Rattle.sw_graph.proofs.Grouped.{components_more, is_component, leads_of, listed_inside, stands_first, together_listing}
use Rattle.sw_graph.proofs.component_list.push_component.Goals as goal

pub together-requires-clause-graph2 : goal.together-requires-clause-graph2
together-requires-clause-graph2 c = reversed_graph c.args.successors.now c.args.predecessors.now c.requires.graph c.requires.reversed

pub shortest_cycle-requires-clause-inside : goal.shortest_cycle-requires-clause-inside
shortest_cycle-requires-clause-inside c =
    let g = c.args.successors.now in
    let xs = c.in_ok-members.members.items in
    let l = together_listing g c.args.predecessors.now c.requires.reversed c.args.c xs (leads_of (Leads g) c.args.c c.args.c c.args.count c.requires.fewest) c.in_ok-members.ensures in
    rw c.deref.ensures.value (listed_inside g c.args.c xs l)

pub shortest_cycle-requires-clause-begins : goal.shortest_cycle-requires-clause-begins
shortest_cycle-requires-clause-begins c =
    let g = c.args.successors.now in
    let xs = c.in_ok-members.members.items in
    let l = together_listing g c.args.predecessors.now c.requires.reversed c.args.c xs (leads_of (Leads g) c.args.c c.args.c c.args.count c.requires.fewest) c.in_ok-members.ensures in
    rw c.deref.ensures.value (stands_first (AreTogether (Leads g) c.args.c) xs c.args.c l c.requires.least)

pub cycle_through-requires-clause-inside : goal.cycle_through-requires-clause-inside
cycle_through-requires-clause-inside c =
    let g = c.args.successors.now in
    let xs = c.in_ok-members.members.items in
    let l = together_listing g c.args.predecessors.now c.requires.reversed c.args.c xs (leads_of (Leads g) c.args.c c.args.c c.args.count c.requires.fewest) c.in_ok-members.ensures in
    let b = rw c.deref.ensures.value at c.in_ok-best.ensures in
    All-contains (λ d. d < length g) xs c.in_ok-best.best.start (listed_inside g c.args.c xs l) b.member

pub returns : goal.returns
returns c =
    let g = c.args.successors.now in
    let dep = Leads g in
    let xs = c.in_ok-members.members.items in
    let on = leads_of dep c.args.c c.args.c c.args.count c.requires.fewest in
    let l = together_listing g c.args.predecessors.now c.requires.reversed c.args.c xs on c.in_ok-members.ensures in
    let b = rw c.deref.ensures.value at c.in_ok-best.ensures in
    let component : Component = record { members = c.in_ok-members.members; cycle = c.in_ok-cycle.cycle } in
    rw c.in_ok-push.ensures.items (components_more dep c.args.c c.args.components.now.items c.requires.below component c.requires.untaken (is_component dep c.args.c component c.in_ok-best.best on l b c.in_ok-cycle.ensures) ((l.member c.args.c).1 (on, on)) (stands_first (AreTogether dep c.args.c) xs c.args.c l c.requires.least).1)
