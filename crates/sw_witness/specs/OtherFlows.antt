-- Two networks of the machine that differ in their flows alone.
use Rattle.std.specs.Prelude.{◌≡◌, ℕ, Bool, List, Option}
use Rattle.sw_machine.specs.DeadlockFreedom.{AlwaysGoesOn, IsNeverLockedUp, NothingIsDropped, QuietIsEmpty}
use Rattle.sw_machine.specs.Network.{Flow, IsDeclared, Network}
use Rattle.sw_machine.specs.Runs.{Run}
use Rattle.sw_machine.specs.State.{State, empty}
use Rattle.sw_machine.specs.Steps.{Step}

-- the network with other flows: so many, so many of them declared, and these by number; whether each is limited; and the limits of the nodes
abbrev pub with_flows : Network → ℕ → ℕ → (ℕ → Flow) → (ℕ → Bool) → (ℕ → Option ℕ) → Network
with_flows net count declared flow limited limit = record net { flows = count; declared_flows = declared; flow = flow; limited = limited; limit = limit }

-- each packet that a flow of the first network declares is one that the flow of that number declares in the other, which begins at the
-- same node with the same address
pub record DeclaresAll (net other : Network) : Type 0 where
  pub packets : (i : ℕ) (cargo : List ℕ) → IsDeclared net i cargo → IsDeclared other i cargo
  pub from : (i : ℕ) (cargo : List ℕ) → IsDeclared net i cargo → (other.flow i).from ≡ (net.flow i).from
  pub address : (i : ℕ) (cargo : List ℕ) → IsDeclared net i cargo → (other.flow i).address ≡ (net.flow i).address

-- what holds of each run of a network that never locks up: it goes on where a character is undelivered, is nowhere locked up, is
-- empty where it is quiet, and loses no character
pub record NeverLocksUp (net : Network) : Type 0 where
  pub always_goes_on : AlwaysGoesOn net
  pub never_locked_up : IsNeverLockedUp net
  pub quiet_is_empty : QuietIsEmpty net
  pub nothing_is_dropped : NothingIsDropped net

-- each run of the first network is one of the other
abbrev pub RunsAreRuns : Network → Network → Type 0
RunsAreRuns net other = (steps : List Step) (s : State) → Run net (empty net) steps s → Run other (empty other) steps s

-- where the other flows declare all packets that the flows declare, each run is one of the other network too
abbrev pub OtherFlowsKeepRuns : Type 0
OtherFlowsKeepRuns = (net : Network) (count declared : ℕ) (flow : ℕ → Flow) (limited : ℕ → Bool) (limit : ℕ → Option ℕ) → DeclaresAll net (with_flows net count declared flow limited limit) → RunsAreRuns net (with_flows net count declared flow limited limit)

-- and if that network never locks up, neither does this one
abbrev pub OtherFlowsKeepFreedom : Type 0
OtherFlowsKeepFreedom = (net : Network) (count declared : ℕ) (flow : ℕ → Flow) (limited : ℕ → Bool) (limit : ℕ → Option ℕ) → DeclaresAll net (with_flows net count declared flow limited limit) → NeverLocksUp (with_flows net count declared flow limited limit) → NeverLocksUp net
