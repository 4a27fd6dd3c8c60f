use Rattle.sw_circles.proofs.Lawful.{circles_close}
use Rattle.sw_circles.proofs.laws.circles_close.Goals as goal

pub returns : goal.returns
returns c = circles_close
