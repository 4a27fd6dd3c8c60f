use Rattle.sw_json.proofs.Plain.{plain_at_more}
use Rattle.sw_json.proofs.laws.plain_at_more.Goals as goal

pub returns : goal.returns
returns c = plain_at_more
