use Rattle.sw_graph.proofs.Rings.{shown_is_cycle}
use Rattle.sw_graph.proofs.laws.shown_is_cycle.Goals as goal

pub returns : goal.returns
returns g c = shown_is_cycle g.D.Relation.dep
