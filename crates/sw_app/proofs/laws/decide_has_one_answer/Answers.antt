use Rattle.sw_app.proofs.OneVerdict.{decide_has_one_answer}
use Rattle.sw_app.proofs.laws.decide_has_one_answer.Goals as goal

pub returns : goal.returns
returns c = decide_has_one_answer
