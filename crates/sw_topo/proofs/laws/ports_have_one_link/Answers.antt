use Rattle.sw_topo.proofs.Ends.{port_only, port_found}
use Rattle.sw_topo.proofs.laws.ports_have_one_link.Goals as goal

pub returns : goal.returns
returns c = λ w sound s p c. (port_only w sound s p c, λ only. port_found w sound s p c only.here)
