use Rattle.sw_machine.proofs.laws.limits_are_sharp.Goals as goal
use Rattle.sw_machine.proofs.LimitSamples.{detour_is_accepted, detour_is_cycle, detour_is_network, detour_locks_up, duel_is_accepted, duel_is_cycle, duel_is_network, duel_locks_up}

pub returns : goal.returns
returns c = record {
  duels = duel_is_network;
  duel_cyclic = duel_is_cycle;
  duel_accepted = duel_is_accepted;
  duel_sharp = duel_locks_up;
  detours = detour_is_network;
  detour_cyclic = detour_is_cycle;
  detour_accepted = detour_is_accepted;
  detour_sharp = detour_locks_up;
}
