use Rattle.sw_machine.proofs.model_laws.any_protocol_is_free.Goals as goal
use Rattle.sw_machine.proofs.DeclaredNetworks.{are_networks_by}
use Rattle.sw_machine.proofs.Protocols.{free_by_any_protocol}

pub returns : goal.returns
returns c = record { networks = are_networks_by; free = free_by_any_protocol }
