use Rattle.std.proofs.Common.{◌≡◌, false, take}
use Rattle.std.specs.List.{list_any}
use Rattle.sw_graph.specs.Walks.{holds}
use Rattle.sw_graph.proofs.component_list.add_component.Given as goal

abbrev pub invariant-loop-component : goal.invariant-loop-component
invariant-loop-component l = list_any (λ p. holds p.members.items l.c) (take l.component-index l.component-items) ≡ false
