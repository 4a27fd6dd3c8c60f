use Rattle.sw_circles.proofs.Lawful.{circles_are_determined}
use Rattle.sw_circles.proofs.laws.circles_are_determined.Goals as goal

pub returns : goal.returns
returns c = circles_are_determined
