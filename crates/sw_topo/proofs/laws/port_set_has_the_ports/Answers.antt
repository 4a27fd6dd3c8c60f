use Rattle.sw_topo.proofs.PortBits.{port_set_members}
use Rattle.sw_topo.proofs.laws.port_set_has_the_ports.Goals as goal

pub returns : goal.returns
returns c = port_set_members
