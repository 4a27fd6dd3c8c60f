use Rattle.sw_margin.proofs.Lawful.{stalls_are_determined}
use Rattle.sw_margin.proofs.laws.stalls_are_determined.Goals as goal

pub returns : goal.returns
returns c = stalls_are_determined
