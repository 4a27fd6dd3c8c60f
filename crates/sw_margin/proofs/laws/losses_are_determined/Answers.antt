use Rattle.sw_margin.proofs.Lawful.{losses_are_determined}
use Rattle.sw_margin.proofs.laws.losses_are_determined.Goals as goal

pub returns : goal.returns
returns c = losses_are_determined
