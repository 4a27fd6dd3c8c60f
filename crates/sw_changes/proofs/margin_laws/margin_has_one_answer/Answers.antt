use Rattle.sw_changes.proofs.OneMarginAnswer.{one_answer}
use Rattle.sw_changes.proofs.margin_laws.margin_has_one_answer.Goals as goal

pub returns : goal.returns
returns c = one_answer c.stalls_are_determined.ensures c.answers_are_determined.ensures c.flow_limits_are_determined.ensures c.losses_are_determined.ensures c.verdicts_are_determined.ensures
