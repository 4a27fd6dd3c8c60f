use Rattle.sw_mend.proofs.ChangesInWords.{changes_take_away}
use Rattle.sw_mend.proofs.change_laws.changes_take_away.Goals as goal

pub returns : goal.returns
returns c = changes_take_away
