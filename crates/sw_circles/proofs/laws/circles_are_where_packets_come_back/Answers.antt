use Rattle.sw_circles.proofs.Lawful.{circles_are_where}
use Rattle.sw_circles.proofs.laws.circles_are_where_packets_come_back.Goals as goal

pub returns : goal.returns
returns c = circles_are_where
