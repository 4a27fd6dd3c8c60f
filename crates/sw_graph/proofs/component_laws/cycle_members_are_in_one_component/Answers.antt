use Rattle.sw_graph.proofs.Lawful.{cycle_members_are_in_one_component}
use Rattle.sw_graph.proofs.component_laws.cycle_members_are_in_one_component.Goals as goal

pub returns : goal.returns
returns g c = cycle_members_are_in_one_component g.D.Relation.dep
