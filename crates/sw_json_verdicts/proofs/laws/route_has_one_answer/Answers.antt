use Rattle.sw_json_verdicts.proofs.OneAnswer.{route_has_one_answer}
use Rattle.sw_json_verdicts.proofs.laws.route_has_one_answer.Goals as goal

pub returns : goal.returns
returns c = route_has_one_answer
