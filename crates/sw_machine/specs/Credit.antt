-- The credit equation of a channel, and its bounds (ECSS-E-ST-50-12C, data link layer: flow control).
use Rattle.std.specs.Prelude.{length, ℕ, ◌*◌, ◌+◌, ◌<◌, ◌≡◌, ◌≤◌}
use Rattle.sw_machine.specs.Network.{IsNetwork, Network}
use Rattle.sw_machine.specs.Runs.{IsReached}
use Rattle.sw_machine.specs.State.{State}

-- what was asked for is on the wire, or may still be sent by credit here or under way; at most 56 characters are, and there is room for them
pub record CreditEquation (net : Network) (s : State) (c : ℕ) : Type 0 where
  pub equation : s.credit c + length (s.wire c) + 8 * s.fcts c ≡ s.outstanding c
  pub few : s.outstanding c ≤ 56
  pub fits : s.outstanding c + length (s.buffer c) ≤ net.capacity c

pub record HasCredit (net : Network) (s : State) : Type 0 where
  pub at : (c : ℕ) → c < net.channels → CreditEquation net s c

-- in each reached state, with no certificate
abbrev pub CreditIsKept : Type 0
CreditIsKept = (net : Network) → IsNetwork net → (s : State) → IsReached net s → HasCredit net s
