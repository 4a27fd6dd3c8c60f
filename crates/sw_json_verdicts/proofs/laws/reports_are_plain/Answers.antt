use Rattle.sw_json_verdicts.proofs.Plain.{reports_are_plain}
use Rattle.sw_json_verdicts.proofs.laws.reports_are_plain.Goals as goal

pub returns : goal.returns
returns c = reports_are_plain c.verdicts_are_plain.ensures
