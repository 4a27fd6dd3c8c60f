-- The packets that a load lists, and the histories in which each node begins them in their order.
use Rattle.std.specs.Prelude.{List, Option, Some, [], filter, flat_map, length, nat_eq, replicate, slice_get, ℕ, ◌++◌, ◌∷◌, ◌≡◌}
use Rattle.sw_load.specs.Load.{LoadEntry}
use Rattle.sw_machine.specs.Begun.{Begun, beginnings}
use Rattle.sw_machine.specs.Limits.{IsWithinLimit, KeepsLimits}
use Rattle.sw_machine.specs.Network.{Network}
use Rattle.sw_machine.specs.Runs.{Run}
use Rattle.sw_machine.specs.State.{State, empty}
use Rattle.sw_machine.specs.Steps.{Begin, Step}

-- a packet of an entry of the load: its packets are all alike
abbrev pub packet_of : LoadEntry → Begun
packet_of p = record { flow = p.flow; cargo = p.cargo; end = p.marker }

-- the packets of a load, one by one
abbrev pub packets_of : List LoadEntry → List Begun
packets_of load = flat_map (λ p. replicate p.count (packet_of p)) load

-- those of these packets that node n is to send
abbrev pub packets_at : Network → ℕ → List Begun → List Begun
packets_at net n packets = filter (λ b. nat_eq (net.flow b.flow).from n) packets

-- ys begins with xs
abbrev pub IsFront : {A : Type 0} → List A → List A → Type 0
IsFront {A} xs ys = (rest : List A) × (ys ≡ xs ++ rest)

-- The steps lead from the empty state to s, each possible where it stands, what each node begins in them are the first of the packets
-- that it is to send, in their order, and each packet is begun only where the limit on unanswered commands is kept.
pub record IsHistory (net : Network) (packets : List Begun) (steps : List Step) (s : State) : Type 0 where
  pub run : Run net (empty net) steps s
  pub in_order : (n : ℕ) → IsFront (packets_at net n (beginnings steps)) (packets_at net n packets)
  pub keeps : KeepsLimits net steps

-- the packet that node n is to begin next: its first packet in the load that was not begun in these steps
abbrev pub next_packet : Network → List Begun → List Step → ℕ → Option Begun
next_packet net packets steps n = slice_get (packets_at net n packets) (length (packets_at net n (beginnings steps)))

-- what the step begins, if it begins a packet, is the next packet of the node where its flow starts
abbrev pub BeginsNext : Network → List Begun → List Step → Step → Type 0
BeginsNext net packets steps (Begin flow cargo end) = next_packet net packets steps (net.flow flow).from ≡ Some (record { flow = flow; cargo = cargo; end = end })
BeginsNext net packets steps step = Unit {0}

-- what the step begins behind these steps, if it begins a packet in the state after them, is within the limit of the node where its flow ends
-- (a beginning changes neither what a node owes nor what came out there)
abbrev pub KeepsLimit : Network → List Step → State → Step → Type 0
KeepsLimit net steps s (Begin flow cargo end) = IsWithinLimit net (steps ++ Begin flow cargo end ∷ []) s (net.flow flow).to
KeepsLimit net steps s step = Unit {0}

-- each node has begun all its packets
abbrev pub IsWhole : Network → List Begun → List Step → Type 0
IsWhole net packets steps = (n : ℕ) → packets_at net n (beginnings steps) ≡ packets_at net n packets
