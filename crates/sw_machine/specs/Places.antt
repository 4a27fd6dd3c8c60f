-- The places of a flow, their faults, the dependencies between channels, and numbers that rise along them
-- (Dally and Seitz 1987; groups, targets that answer and limits on unanswered commands are this project's choice).
use Rattle.std.specs.Prelude.{Contains, List, Some, [], if◌then◌else◌, length, slice_index, true, ℕ, ◌+◌, ◌-◌, ◌<◌, ◌∷◌, ◌≡◌, ◌≢◌, ◌⊎◌}
use Rattle.sw_machine.specs.Network.{AtNode, AtSwitch, Network}

-- the leading byte of a packet of flow i with k address bytes deleted
abbrev pub header : Network → ℕ → ℕ → ℕ
header net i k = slice_index (net.flow i).address k

-- how many bytes of flow i are deleted behind the switch
abbrev pub deleted_after : Network → ℕ → ℕ → ℕ → ℕ
deleted_after net i switch k = if net.deletes switch (header net i k) then k + 1 else k

-- a packet of flow i goes on from channel c with k bytes deleted to channel d with m bytes deleted
pub record Follows (net : Network) (i c k d m : ℕ) : Type 0 where
  pub switch : ℕ
  pub at : net.end_of c ≡ AtSwitch switch
  pub within : k < length (net.flow i).address
  pub named : Contains (net.look switch (header net i k)) d
  pub deleted : m ≡ deleted_after net i switch k

-- the places of flow i: the least set that holds its start, and what follows each
pub data IsPlace (net : Network) (i : ℕ) : ℕ → ℕ → Type 0 where
  Start : IsPlace net i (net.out (net.flow i).from) 0
  Goes : (c k d m : ℕ) → IsPlace net i c k → Follows net i c k d m → IsPlace net i d m

-- the address ends at a switch
pub record AddressEnds (net : Network) (i c k : ℕ) : Type 0 where
  pub switch : ℕ
  pub at : net.end_of c ≡ AtSwitch switch
  pub ends : k ≡ length (net.flow i).address

-- the leading byte names no channel
pub record NoRoute (net : Network) (i c k : ℕ) : Type 0 where
  pub switch : ℕ
  pub at : net.end_of c ≡ AtSwitch switch
  pub within : k < length (net.flow i).address
  pub unnamed : net.look switch (header net i k) ≡ []

-- the channel ends at another node than the flow
pub record WrongNode (net : Network) (i c k : ℕ) : Type 0 where
  pub node : ℕ
  pub at : net.end_of c ≡ AtNode node
  pub other : node ≢ (net.flow i).to

-- the channel ends where the flow does, but not so many address bytes are left as are declared
pub record WrongLeft (net : Network) (i c k : ℕ) : Type 0 where
  pub at : net.end_of c ≡ AtNode (net.flow i).to
  pub other : length (net.flow i).address - k ≢ (net.flow i).left

-- the place has none of the four faults
pub record NoFault (net : Network) (i c k : ℕ) : Type 0 where
  pub address : AddressEnds net i c k → ⊥
  pub route : NoRoute net i c k → ⊥
  pub node : WrongNode net i c k → ⊥
  pub left : WrongLeft net i c k → ⊥

-- no place of the flow has a fault
abbrev pub IsWellRouted : Network → ℕ → Type 0
IsWellRouted net i = (c k : ℕ) → IsPlace net i c k → NoFault net i c k

-- each flow that ends at node n is limited
abbrev pub AllAreLimited : Network → ℕ → Type 0
AllAreLimited net n = (i : ℕ) → i < net.flows → (net.flow i).to ≡ n → net.limited i ≡ true

-- Node n takes what comes, whatever it owes: fewer commands may be unanswered there than it may owe replies, or as many, where nothing else
-- ends there (a command that waits is unanswered itself, and its reply not yet owed).
pub record AlwaysTakes (net : Network) (n : ℕ) : Type 0 where
  pub limit : ℕ
  pub is : net.limit n ≡ Some limit
  pub few : (limit < net.slots n) ⊎ ((limit ≡ net.slots n) × AllAreLimited net n)

-- a packet that is on c may wait for d: a flow goes on from c to d, or c leads to a target that answers on d and doesn't always take
pub data IsDependency (net : Network) : ℕ → ℕ → Type 0 where
  ByFlow : (i c k d m : ℕ) → i < net.flows → IsPlace net i c k → Follows net i c k d m → IsDependency net c d
  ByTarget : (i j : ℕ) → i < net.flows → (net.flow i).reply ≡ Some j → (AlwaysTakes net (net.flow i).to → ⊥) → IsDependency net (net.into (net.flow i).to) (net.out (net.flow i).to)

abbrev pub IsRising : Network → (ℕ → ℕ) → Type 0
IsRising net number = (c d : ℕ) → IsDependency net c d → number c < number d

-- from c over each of these channels to d, each with a dependency to the next
abbrev pub IsChain : Network → ℕ → List ℕ → ℕ → Type 0
IsChain net c [] d = IsDependency net c d
IsChain net c (e ∷ es) d = IsDependency net c e × IsChain net e es d

-- one or more channels, each with a dependency to the next, and the last to the first
abbrev pub IsCycle : Network → List ℕ → Type 0
IsCycle net [] = ⊥
IsCycle net (c ∷ cs) = IsChain net c cs c

-- where numbers rise along the dependencies, these have no cycle
abbrev pub RisingHasNoCycle : Type 0
RisingHasNoCycle = (net : Network) (number : ℕ → ℕ) → IsRising net number → (cycle : List ℕ) → IsCycle net cycle → ⊥
