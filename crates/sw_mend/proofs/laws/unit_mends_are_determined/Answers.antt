use Rattle.sw_mend.proofs.Determined.{unit_mends_are_determined}
use Rattle.sw_mend.proofs.laws.unit_mends_are_determined.Goals as goal

pub returns : goal.returns
returns c = unit_mends_are_determined
