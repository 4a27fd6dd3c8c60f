-- A certificate: a number for each channel, and places for each flow.
use Rattle.std.specs.Prelude.{Contains, List, Some, [], length, slice_get, slice_index, unwrap_or, ℕ, ◌<◌, ◌≡◌, ◌≤◌}
use Rattle.sw_machine.specs.Network.{Network, Place}
use Rattle.sw_machine.specs.Places.{AlwaysTakes, Follows, NoFault}

pub record Certificate : Type 0 where
  pub numbers : List ℕ
  pub places : List (List Place)

abbrev pub number : Certificate → ℕ → ℕ
number cert c = slice_index cert.numbers c

abbrev pub IsListed : Certificate → ℕ → ℕ → ℕ → Type 0
IsListed cert i c k = Contains (unwrap_or (slice_get cert.places i) []) (record { channel = c; deleted = k })

-- the certificate is for as many channels and flows as the network has, each flow's start and what follows a listed place is listed,
-- none has a fault, and the numbers rise along them and at each target that answers and doesn't always take
pub record IsAccepted (net : Network) (cert : Certificate) : Type 0 where
  pub channels : length cert.numbers ≡ net.channels
  pub flows : length cert.places ≡ net.flows
  pub in_range : (i c k : ℕ) → i < net.flows → IsListed cert i c k → (c < net.channels) × (k ≤ length (net.flow i).address)
  pub starts : (i : ℕ) → i < net.flows → IsListed cert i (net.out (net.flow i).from) 0
  pub faultless : (i c k : ℕ) → i < net.flows → IsListed cert i c k → NoFault net i c k
  pub closed : (i c k d m : ℕ) → i < net.flows → IsListed cert i c k → Follows net i c k d m → IsListed cert i d m
  pub rising : (i c k d m : ℕ) → i < net.flows → IsListed cert i c k → Follows net i c k d m → number cert c < number cert d
  pub targets : (i j : ℕ) → i < net.flows → (net.flow i).reply ≡ Some j → (AlwaysTakes net (net.flow i).to → ⊥) → number cert (net.into (net.flow i).to) < number cert (net.out (net.flow i).to)
