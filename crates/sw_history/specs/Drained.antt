-- A network that has sent a whole load, and is empty again.
use Rattle.std.specs.Prelude.{List, sum_by, ℕ, ◌*◌, ◌+◌, ◌≡◌, ◌≤◌}
use Rattle.sw_load.specs.History.{IsHistory, IsWhole, packets_of}
use Rattle.sw_load.specs.Load.{LoadEntry}
use Rattle.sw_machine.specs.Begun.{Begun, RunOf, characters, length_with_reply, moves}
use Rattle.sw_machine.specs.Network.{Network}
use Rattle.sw_machine.specs.Runs.{undelivered}
use Rattle.sw_machine.specs.State.{State, empty}
use Rattle.sw_machine.specs.Steps.{Step}
use Rattle.sw_machine.specs.Model.{network_of}
use Rattle.sw_net.specs.Net.{IsNetState, NetView}

-- for each channel 14 steps, and 5 for each character of the packets and of the longest replies to those that are answered
abbrev pub most_moves : Network → List Begun → ℕ
most_moves net packets = net.channels * (14 + 5 * sum_by (length_with_reply net) packets)

-- for each channel 14 steps, and 5 for each character of the packets
abbrev pub most_moves_of : Network → List Begun → ℕ
most_moves_of net begun = net.channels * (14 + 5 * characters net begun)

-- the net is in the state that a history of the load leads to
pub record IsUnderWay {R A : Type 0} (load : List LoadEntry) (v : NetView R A) : Type 0 where
  pub steps : List Step
  pub state : State
  pub history : IsHistory (network_of v.declared) (packets_of load) steps state
  pub in_net : IsNetState v state

-- The net is in the state that a history of the load leads to, in which all is begun. The history has so many steps other than beginnings,
-- and nothing is undelivered.
pub record IsDrained {R A : Type 0} (load : List LoadEntry) (v : NetView R A) (count : ℕ) : Type 0 where
  pub steps : List Step
  pub state : State
  pub history : IsHistory (network_of v.declared) (packets_of load) steps state
  pub in_net : IsNetState v state
  pub begun : List Begun  -- what the steps begin, replies included
  pub begins : RunOf (network_of v.declared) (empty (network_of v.declared)) steps begun state
  pub all_begun : IsWhole (network_of v.declared) (packets_of load) steps
  pub empty : (s : State) → IsNetState v s → undelivered (network_of v.declared) s ≡ 0
  pub counted : count ≡ moves steps
  pub few : count ≤ most_moves (network_of v.declared) (packets_of load)
  pub few_of_begun : count ≤ most_moves_of (network_of v.declared) begun
