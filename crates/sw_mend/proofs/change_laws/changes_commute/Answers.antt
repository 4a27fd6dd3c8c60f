use Rattle.sw_mend.proofs.ChangesInWords.{changes_commute}
use Rattle.sw_mend.proofs.change_laws.changes_commute.Goals as goal

pub returns : goal.returns
returns c = changes_commute
