use Rattle.sw_graph.proofs.Existence.{levels_are_where_no_cycle_is}
use Rattle.sw_graph.proofs.laws.levels_are_where_no_cycle_is.Goals as goal

pub returns : goal.returns
returns g c = levels_are_where_no_cycle_is g.D.Relation.dep
