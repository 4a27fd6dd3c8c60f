use Rattle.sw_machine.proofs.DeclaredNetworks.{are_networks}
use Rattle.sw_machine.proofs.model_laws.declared_networks_are_networks.Goals as goal

pub returns : goal.returns
returns c = are_networks
