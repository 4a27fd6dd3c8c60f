use Rattle.sw_machine.proofs.Declared.{declared_packets_pass}
use Rattle.sw_machine.proofs.model_laws.declared_packets_pass.Goals as goal

pub returns : goal.returns
returns c = declared_packets_pass
