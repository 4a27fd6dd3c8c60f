use Rattle.sw_topo.proofs.PortWalk.{ports_listed}
use Rattle.sw_topo.proofs.laws.ports_are_listed.Goals as goal

pub returns : goal.returns
returns c = ports_listed
