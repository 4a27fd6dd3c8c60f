use Rattle.sw_graph.proofs.Lawful.{components_are_where_cycles_are}
use Rattle.sw_graph.proofs.component_laws.components_are_where_cycles_are.Goals as goal

pub returns : goal.returns
returns g c = components_are_where_cycles_are g.D.Relation.dep
