use Rattle.sw_json_verdicts.proofs.Plain.{routes_are_plain}
use Rattle.sw_json_verdicts.proofs.laws.routes_are_plain.Goals as goal

pub returns : goal.returns
returns c = routes_are_plain c.places_are_plain.ensures
