use Rattle.sw_mend.proofs.Kept.{all_keep_valid}
use Rattle.sw_mend.proofs.laws.all_keep_valid.Goals as goal

pub returns : goal.returns
returns c = all_keep_valid
