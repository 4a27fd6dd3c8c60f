-- What a node owes.
use Rattle.std.specs.Prelude.{Bool, List, Option, Some, [], false, find, length, nat_eq, reverse, ℕ, ◌+◌, ◌<◌, ◌≡◌, ◌≢◌, ◌≤◌}
use Rattle.sw_machine.specs.Network.{IsNetwork, Network}
use Rattle.sw_machine.specs.Runs.{IsReached, Run}
use Rattle.sw_machine.specs.State.{State, empty}
use Rattle.sw_machine.specs.Steps.{Begin, Emit, Leads, Reply, Step}

-- whether the step begins a packet at node n
abbrev pub begins_at : Network → ℕ → Step → Bool
begins_at net n (Begin f cargo end) = nat_eq (net.flow f).from n
begins_at net n (Reply m) = nat_eq m n
begins_at net n step = false

-- the last of the steps that begins a packet at node n
abbrev pub last_beginning : Network → ℕ → List Step → Option Step
last_beginning net n steps = find (begins_at net n) (reverse steps)

-- after these steps node n sends a reply: it began one last, and has not sent it all
pub record IsSendingReply (net : Network) (n : ℕ) (steps : List Step) (s : State) : Type 0 where
  pub last : last_beginning net n steps ≡ Some (Reply n)
  pub sending : s.to_send n ≢ []

-- a node owes at most as many replies as it has slots: those that are pending, and the one that it sends
pub record Owes (net : Network) (n : ℕ) (steps : List Step) (s : State) : Type 0 where
  pub within : s.owed n ≤ net.slots n
  pub sending : IsSendingReply net n steps s → s.owed n ≡ length (s.pending n) + 1
  pub waiting : (IsSendingReply net n steps s → ⊥) → s.owed n ≡ length (s.pending n)

-- in each reached state, with no certificate
abbrev pub NodesOweReplies : Type 0
NodesOweReplies = (net : Network) → IsNetwork net → (steps : List Step) (s : State) → Run net (empty net) steps s → (n : ℕ) → n < net.nodes → Owes net n steps s

-- the last character of a reply lowers what is owed by one, and no other does
pub record Settles (net : Network) (n : ℕ) (steps : List Step) (s t : State) : Type 0 where
  pub last : IsSendingReply net n steps s → t.to_send n ≡ [] → s.owed n ≡ t.owed n + 1
  pub other : (IsSendingReply net n steps s → t.to_send n ≡ [] → ⊥) → t.owed n ≡ s.owed n

abbrev pub EmitSettles : Type 0
EmitSettles = (net : Network) → IsNetwork net → (steps : List Step) (s : State) → Run net (empty net) steps s → (n : ℕ) (t : State) → Leads net s (Emit n) t → Settles net n steps s t

-- a flow that is answered ends at the node
pub record IsAsked (net : Network) (n : ℕ) : Type 0 where
  pub asked : ℕ
  pub in_flows : asked < net.flows
  pub to : (net.flow asked).to ≡ n
  pub reply : ℕ
  pub by : (net.flow asked).reply ≡ Some reply

-- only a target where a flow with a reply ends ever owes one
abbrev pub OnlyAskedOwe : Network → Type 0
OnlyAskedOwe net = (s : State) → IsReached net s → (n : ℕ) → n < net.nodes → 0 < s.owed n → IsAsked net n
