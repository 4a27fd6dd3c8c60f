use Rattle.sw_topo.proofs.Ends.{node_only}
use Rattle.sw_topo.proofs.laws.nodes_have_one_link.Goals as goal

pub returns : goal.returns
returns c = λ w sound. node_only w sound
