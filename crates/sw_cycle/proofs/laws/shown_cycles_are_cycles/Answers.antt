use Rattle.sw_cycle.proofs.Shown.{shown_are_cycles}
use Rattle.sw_cycle.proofs.laws.shown_cycles_are_cycles.Goals as goal

pub returns : goal.returns
returns c = shown_are_cycles
