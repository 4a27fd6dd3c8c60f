use Rattle.sw_topo.proofs.Ends.{switch_linked}
use Rattle.sw_topo.proofs.laws.switches_are_linked.Goals as goal

pub returns : goal.returns
returns c = λ w sound. switch_linked w sound
