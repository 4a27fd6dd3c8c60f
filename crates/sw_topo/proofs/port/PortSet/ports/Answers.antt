use Rattle.sw_topo.proofs.PortWalk.{ports_few}
use Rattle.sw_topo.proofs.port.PortSet.ports.Goals as goal

pub returns-clause-few : goal.returns-clause-few
returns-clause-few c = ports_few c.args.self
