use Rattle.sw_flow.specs.Places.IsPlace.{next}
use Rattle.sw_flow.proofs.laws.followers_are_places.Goals as goal

pub returns : goal.returns
returns c = λ d f b k e m place step. next place step
