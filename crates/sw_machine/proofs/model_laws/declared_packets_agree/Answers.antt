use Rattle.sw_machine.proofs.Declares.{declared_are_declared}
use Rattle.sw_machine.proofs.model_laws.declared_packets_agree.Goals as goal

pub returns : goal.returns
returns c = declared_are_declared
