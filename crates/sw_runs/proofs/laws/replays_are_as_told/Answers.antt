use Rattle.sw_runs.proofs.Retold.{replays_are_as_told}
use Rattle.sw_runs.proofs.laws.replays_are_as_told.Goals as goal

pub returns : goal.returns
returns c = replays_are_as_told
