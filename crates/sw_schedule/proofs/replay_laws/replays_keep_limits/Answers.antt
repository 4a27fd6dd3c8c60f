use Rattle.sw_schedule.proofs.NetSteps.{replays_keep_limits}
use Rattle.sw_schedule.proofs.replay_laws.replays_keep_limits.Goals as goal

pub returns : goal.returns
returns c = replays_keep_limits
