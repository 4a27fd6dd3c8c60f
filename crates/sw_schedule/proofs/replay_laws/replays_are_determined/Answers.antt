use Rattle.sw_schedule.proofs.OneReport.{replays_are_determined}
use Rattle.sw_schedule.proofs.replay_laws.replays_are_determined.Goals as goal

pub returns : goal.returns
returns c = replays_are_determined
