use Rattle.sw_machine.proofs.model_laws.always_takes_agrees.Goals as goal
use Rattle.sw_machine.proofs.AlwaysTaking.{always_takes_agrees}

pub returns : goal.returns
returns c = always_takes_agrees
