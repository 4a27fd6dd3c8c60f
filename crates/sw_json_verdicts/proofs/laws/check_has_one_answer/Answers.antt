use Rattle.sw_json_verdicts.proofs.OneAnswer.{check_has_one_answer}
use Rattle.sw_json_verdicts.proofs.laws.check_has_one_answer.Goals as goal

pub returns : goal.returns
returns c = check_has_one_answer
