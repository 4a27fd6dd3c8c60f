use Rattle.sw_json_verdicts.proofs.OneAnswer.{report_has_one_answer}
use Rattle.sw_json_verdicts.proofs.laws.report_has_one_answer.Goals as goal

pub returns : goal.returns
returns c = report_has_one_answer
