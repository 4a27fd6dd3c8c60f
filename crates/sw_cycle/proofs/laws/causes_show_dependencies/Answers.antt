use Rattle.sw_cycle.proofs.Shown.{causes_show}
use Rattle.sw_cycle.proofs.laws.causes_show_dependencies.Goals as goal

pub returns : goal.returns
returns c = causes_show
