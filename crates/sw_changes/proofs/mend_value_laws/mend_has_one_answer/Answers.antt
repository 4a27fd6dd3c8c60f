use Rattle.sw_changes.proofs.MendOnce.{mend_has_one_answer}
use Rattle.sw_changes.proofs.mend_value_laws.mend_has_one_answer.Goals as goal

pub returns : goal.returns
returns c = mend_has_one_answer c.mendings_are_determined.ensures
