use Rattle.sw_mend.proofs.Determined.{mends_keep_valid}
use Rattle.sw_mend.proofs.laws.mends_keep_valid.Goals as goal

pub returns : goal.returns
returns c = mends_keep_valid
