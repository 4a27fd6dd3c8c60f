use Rattle.std.proofs.Common.{arith}
use Rattle.sw_graph.specs.Rows.{Leads}
use Rattle.sw_graph.proofs.Grouped.{are_components, components_none, on_inside}
use Rattle.sw_graph.proofs.component_list.components.Goals as goal

pub loop-c-init : goal.loop-c-init
loop-c-init c = rw c.new-components.ensures.items (components_none (Leads c.args.successors.now))

pub returns : goal.returns
returns c =
    let g = c.args.successors.now in
    are_components (Leads g) c.loop-c.c c.loop-c.components.items c.loop-c.invariant (λ d on. let lt = on_inside g d on in omega (arith, c.loop-c-test.false))

pub loop-c-preserved : goal.loop-c-preserved
loop-c-preserved c = c.in_ok-add_component.ensures

pub add_component-requires-clause-inside : goal.add_component-requires-clause-inside
add_component-requires-clause-inside c = c.loop-c-test.true

pub add_component-requires-clause-reversed : goal.add_component-requires-clause-reversed
add_component-requires-clause-reversed c = rw c.deref.ensures.value c.in_ok-predecessors.ensures
