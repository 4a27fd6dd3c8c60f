use Rattle.sw_topo.proofs.Converse as converse
use Rattle.sw_topo.proofs.laws.first_is_least.Goals as goal

pub returns : goal.returns
returns c = converse.first_is_least
