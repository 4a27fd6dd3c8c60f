use Rattle.sw_json_verdicts.proofs.Plain.{refusals_are_plain}
use Rattle.sw_json_verdicts.proofs.laws.refusals_are_plain.Goals as goal

pub returns : goal.returns
returns c = refusals_are_plain
