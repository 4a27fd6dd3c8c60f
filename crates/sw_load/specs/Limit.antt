-- How long the histories of a load are.
use Rattle.std.specs.Prelude.{List, length, sum_by, ℕ, ◌*◌, ◌+◌, ◌<◌}
use Rattle.sw_load.specs.History.{IsHistory}
use Rattle.sw_machine.specs.Begun.{Begun, length_with_reply}
use Rattle.sw_machine.specs.DeadlockFreedom.{OfAccepted}
use Rattle.sw_machine.specs.Network.{Network}
use Rattle.sw_machine.specs.State.{State}
use Rattle.sw_machine.specs.Steps.{Step}

-- one more than the steps that a network can make which begins these packets: a beginning for each, and for each channel 14 and 5 for each
-- character of the packets and of the longest replies to those that are answered
abbrev pub enough_limit : Network → List Begun → ℕ
enough_limit net packets = length packets + net.channels * (14 + 5 * sum_by (length_with_reply net) packets) + 1

-- each history that begins packets of a load has fewer steps
abbrev pub HistoriesEnd : Network → Type 0
HistoriesEnd net = (packets : List Begun) (steps : List Step) (s : State) → IsHistory net packets steps s → length steps < enough_limit net packets

-- so it is wherever a certificate is accepted
abbrev pub AcceptedHistoriesEnd : Type 0
AcceptedHistoriesEnd = OfAccepted HistoriesEnd
