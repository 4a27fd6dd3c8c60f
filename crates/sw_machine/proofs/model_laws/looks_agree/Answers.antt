use Rattle.sw_machine.proofs.Steps.{looks_agree}
use Rattle.sw_machine.proofs.model_laws.looks_agree.Goals as goal

pub returns : goal.returns
returns c = looks_agree
