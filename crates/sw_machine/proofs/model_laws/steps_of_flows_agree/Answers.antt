use Rattle.sw_machine.proofs.Steps.{steps_agree}
use Rattle.sw_machine.proofs.model_laws.steps_of_flows_agree.Goals as goal

pub returns : goal.returns
returns c = steps_agree
