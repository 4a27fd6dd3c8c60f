use Rattle.sw_changes.proofs.OneMendAnswer.{one_answer}
use Rattle.sw_changes.proofs.mend_laws.mend_has_one_answer.Goals as goal

pub returns : goal.returns
returns c = one_answer c.mendings_are_determined.ensures
