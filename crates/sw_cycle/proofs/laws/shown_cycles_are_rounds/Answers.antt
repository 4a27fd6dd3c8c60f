use Rattle.sw_cycle.proofs.Chosen.{shown_round}
use Rattle.sw_cycle.proofs.laws.shown_cycles_are_rounds.Goals as goal

pub returns : goal.returns
returns c = shown_round
