use Rattle.sw_cycle.proofs.Chosen.{chosen_show}
use Rattle.sw_cycle.proofs.laws.chosen_causes_show_cycles.Goals as goal

pub returns : goal.returns
returns c = chosen_show
