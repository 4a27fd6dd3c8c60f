use Rattle.sw_app.proofs.OneReport.{report_has_one_answer}
use Rattle.sw_app.proofs.laws.report_has_one_answer.Goals as goal

pub returns : goal.returns
returns c = report_has_one_answer
