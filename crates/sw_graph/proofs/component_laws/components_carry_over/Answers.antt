use Rattle.sw_graph.proofs.Carried.{components_carry_over}
use Rattle.sw_graph.proofs.component_laws.components_carry_over.Goals as goal

pub returns : goal.returns
returns g c = components_carry_over g.D.Relation.dep g.E.Relation.dep
