use Rattle.sw_topo.proofs.PortBits.{and_members}
use Rattle.sw_topo.proofs.port.PortSet.meet.Goals as goal

pub returns-clause-members : goal.returns-clause-members
returns-clause-members c = rw (← c.self.view_is, ← c.other.view_is) (and_members c.self.inside.bits c.other.inside.bits)
