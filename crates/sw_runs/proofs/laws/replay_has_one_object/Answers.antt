use Rattle.sw_runs.proofs.OneReplay.{replay_has_one_object}
use Rattle.sw_runs.proofs.laws.replay_has_one_object.Goals as goal

pub returns : goal.returns
returns c = replay_has_one_object
