use Rattle.sw_flow.proofs.Stepping.{places_are_in}
use Rattle.sw_flow.proofs.laws.places_are_in.Goals as goal

pub returns : goal.returns
returns c = places_are_in
