use Rattle.sw_json.proofs.PlainValues.{kind_plain}
use Rattle.sw_json.proofs.laws.kinds_are_plain.Goals as goal

pub returns : goal.returns
returns c = kind_plain
