use Rattle.sw_mend.proofs.Determined.{unit_mends_keep_valid}
use Rattle.sw_mend.proofs.laws.unit_mends_keep_valid.Goals as goal

pub returns : goal.returns
returns c = unit_mends_keep_valid
