use Rattle.sw_json.proofs.PlainValues.{verdict_plain}
use Rattle.sw_json.proofs.laws.verdicts_are_plain.Goals as goal

pub returns : goal.returns
returns c = verdict_plain
