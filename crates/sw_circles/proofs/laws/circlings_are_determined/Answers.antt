use Rattle.sw_circles.proofs.Lawful.{circlings_are_determined}
use Rattle.sw_circles.proofs.laws.circlings_are_determined.Goals as goal

pub returns : goal.returns
returns c = circlings_are_determined
