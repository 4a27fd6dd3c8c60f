use Rattle.sw_graph.proofs.Transfers.{carry_over}
use Rattle.sw_graph.proofs.laws.answers_carry_over.Goals as goal

pub returns : goal.returns
returns g c = carry_over g.D.Relation.dep g.E.Relation.dep
