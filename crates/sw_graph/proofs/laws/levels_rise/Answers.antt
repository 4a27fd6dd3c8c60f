use Rattle.sw_graph.proofs.Existence.{levels_rise}
use Rattle.sw_graph.proofs.laws.levels_rise.Goals as goal

pub returns : goal.returns
returns g c = levels_rise g.D.Relation.dep
