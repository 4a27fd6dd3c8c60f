use Rattle.sw_changes.proofs.MendOnce.{mend_has_status_of_text}
use Rattle.sw_changes.proofs.mend_value_laws.mend_has_status_of_text.Goals as goal

pub returns : goal.returns
returns c = mend_has_status_of_text c.mendings_are_determined.ensures
