use Rattle.sw_mend.proofs.Determined.{pairs_are_determined}
use Rattle.sw_mend.proofs.laws.pairs_are_determined.Goals as goal

pub returns : goal.returns
returns c = pairs_are_determined
