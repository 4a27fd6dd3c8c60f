use Rattle.sw_machine.proofs.laws.guarded_runs_are_runs.Goals as goal
use Rattle.sw_machine.proofs.Stalling.{runs_under_are_runs}

pub returns : goal.returns
returns g c = runs_under_are_runs g.G.Guarded.guard
