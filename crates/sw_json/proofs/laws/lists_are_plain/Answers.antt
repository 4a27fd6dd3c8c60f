use Rattle.sw_json.proofs.Plain.{list_plain}
use Rattle.sw_json.proofs.laws.lists_are_plain.Goals as goal

pub returns : goal.returns
returns c = list_plain
