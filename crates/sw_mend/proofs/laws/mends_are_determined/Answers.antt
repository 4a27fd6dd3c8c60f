use Rattle.sw_mend.proofs.Determined.{mends_are_determined}
use Rattle.sw_mend.proofs.laws.mends_are_determined.Goals as goal

pub returns : goal.returns
returns c = mends_are_determined
