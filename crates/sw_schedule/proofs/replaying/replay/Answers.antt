use Rattle.std.proofs.Common.{subst}
use Rattle.std.specs.Prelude.{IfOk}
use Rattle.sw_config.specs.Entries.{Declaration}
use Rattle.sw_schedule.proofs.NetSteps.{new_here}
use Rattle.sw_schedule.specs.Replays.{IsReplayed}
use Rattle.sw_schedule.specs.Reports.{report_of}
use Rattle.sw_schedule.proofs.replaying.replay.Goals as goal

pub replay_on-replayed-requires : goal.replay_on-replayed-requires
replay_on-replayed-requires c = new_here c.args.network.now c.in_ok-net.net c.in_ok-net.ensures.new

pub returns : goal.returns
returns c = subst (λ (d : Declaration). IfOk c.replay_on-replayed.result (λ r. IsReplayed d c.args.schedule.now (report_of r))) c.in_ok-net.ensures.new.network c.replay_on-replayed.ensures.replayed
