use Rattle.sw_mend.proofs.Kept.{changes_keep_valid}
use Rattle.sw_mend.proofs.laws.changes_keep_valid.Goals as goal

pub returns : goal.returns
returns c = changes_keep_valid
