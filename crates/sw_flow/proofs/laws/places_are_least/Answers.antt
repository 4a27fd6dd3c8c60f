use Rattle.sw_flow.proofs.Stepping.{places_are_least}
use Rattle.sw_flow.proofs.laws.places_are_least.Goals as goal

pub returns : goal.returns
returns c = places_are_least
