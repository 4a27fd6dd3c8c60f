use Rattle.sw_runs.proofs.OneReplay.{replay_has_status_of_text}
use Rattle.sw_runs.proofs.laws.replay_has_status_of_text.Goals as goal

pub returns : goal.returns
returns c = replay_has_status_of_text
