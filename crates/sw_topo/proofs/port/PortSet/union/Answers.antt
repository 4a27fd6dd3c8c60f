use Rattle.sw_topo.proofs.PortBits.{or_members}
use Rattle.sw_topo.proofs.port.PortSet.union.Goals as goal

pub returns-clause-members : goal.returns-clause-members
returns-clause-members c = rw (← c.self.view_is, ← c.other.view_is) (or_members c.self.inside.bits c.other.inside.bits)
