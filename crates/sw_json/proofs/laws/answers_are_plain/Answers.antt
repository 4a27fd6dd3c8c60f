use Rattle.sw_json.proofs.PlainValues.{answer_plain}
use Rattle.sw_json.proofs.laws.answers_are_plain.Goals as goal

pub returns : goal.returns
returns c = answer_plain
