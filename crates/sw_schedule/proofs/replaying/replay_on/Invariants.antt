use Rattle.sw_schedule.proofs.Outputs.{AreFirst}
use Rattle.sw_schedule.proofs.replaying.replay_on.Given as goal

abbrev pub invariant-loop-n : goal.invariant-loop-n
invariant-loop-n l = AreFirst l.net l.n l.came_out.items
