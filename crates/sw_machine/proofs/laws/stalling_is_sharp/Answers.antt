use Rattle.std.proofs.Common.{Some, arith}
use Rattle.sw_machine.proofs.laws.stalling_is_sharp.Goals as goal
use Rattle.sw_machine.proofs.LimitSamples.{duel_is_accepted, duel_is_network}
use Rattle.sw_machine.proofs.StallingSamples.{standoff_locks_up, target_rises}

pub returns : goal.returns
returns c = record {
  rises = target_rises;
  network = duel_is_network 2 (Some 1) (omega arith);
  accepted = duel_is_accepted 2 1 (omega arith);
  locked = standoff_locks_up;
}
