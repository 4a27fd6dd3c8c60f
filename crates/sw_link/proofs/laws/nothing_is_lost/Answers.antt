use Rattle.sw_link.proofs.Carried.{nothing_lost}
use Rattle.sw_link.proofs.laws.nothing_is_lost.Goals as goal

pub returns : goal.returns
returns c = nothing_lost
