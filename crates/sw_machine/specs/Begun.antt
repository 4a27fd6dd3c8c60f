-- The packets that a run begins, and those that came out of it.
use Rattle.std.specs.Option.{option_map_or}
use Rattle.std.specs.Prelude.{Bool, List, Some, [], count_by, false, filter, flat_map, length, map, nat_eq, nat_le, not, sum_by, ℕ, ◌&&◌, ◌*◌, ◌++◌, ◌+◌, ◌<◌, ◌∷◌, ◌≡◌, ◌≤◌}
use Rattle.sw_char.specs.declared.nchar.End.{End}
use Rattle.sw_char.specs.declared.nchar.End.TheVariants.{Eop as ByEop}
use Rattle.sw_machine.specs.Network.{Network, form, left_bytes}
use Rattle.sw_rmap.specs.Owing.{PendingReply}
use Rattle.sw_machine.specs.Packets.{Packet}
use Rattle.sw_machine.specs.Runs.{CameOut, Run, undelivered}
use Rattle.sw_machine.specs.State.{State, empty}
use Rattle.sw_machine.specs.Steps.{Begin, Leads, Reply, Step, is_begin}

-- a packet that was begun
pub record Begun : Type 0 where
  pub flow : ℕ
  pub cargo : List ℕ
  pub end : End

-- the packet as the node at the end of its flow gets it
abbrev pub left_form : Network → Begun → Packet
left_form net b = record { bytes = left_bytes net b.flow b.cargo; end = b.end }

-- the reply of node n that has waited longest, as a packet of the reply flow of a flow that ends there
pub record IsReply (net : Network) (s : State) (n : ℕ) (b : Begun) : Type 0 where
  pub asked : ℕ
  pub in_flows : asked < net.flows
  pub by : (net.flow asked).reply ≡ Some b.flow
  pub at : (net.flow asked).to ≡ n
  pub reply : PendingReply
  pub others : List PendingReply
  pub waits : s.pending n ≡ reply ∷ others
  pub goes : reply.address ≡ (net.flow b.flow).address
  pub cargo : b.cargo ≡ reply.cargo
  pub end : b.end ≡ ByEop

-- the packets that the step begins
abbrev pub Begins : Network → State → Step → List Begun → Type 0
Begins net s (Begin f cargo end) begun = begun ≡ record { flow = f; cargo = cargo; end = end } ∷ []
Begins net s (Reply n) begun = (b : Begun) × IsReply net s n b × (begun ≡ b ∷ [])
Begins net s step begun = begun ≡ []

-- the steps lead from s to t, and begin these packets
abbrev pub RunOf : Network → State → List Step → List Begun → State → Type 0
RunOf net s [] begun t = (begun ≡ []) × (t ≡ s)
RunOf net s (step ∷ steps) begun t = (mid : State) × (first : List Begun) × (later : List Begun) × Leads net s step mid × Begins net s step first × (begun ≡ first ++ later) × RunOf net mid steps later t

-- each run begins some packets
abbrev pub EachRunIsCounted : Network → Type 0
EachRunIsCounted net = (steps : List Step) (s : State) → Run net (empty net) steps s → (begun : List Begun) × RunOf net (empty net) steps begun s

-- the left forms of the packets of flows to n
abbrev pub sent_to : Network → ℕ → List Begun → List Packet
sent_to net n begun = map (left_form net) (filter (λ b. nat_eq (net.flow b.flow).to n) begun)

-- each packet is among the first at most as often as among the second
abbrev pub NoOftener : List Packet → List Packet → Type 0
NoOftener ps qs = (test : Packet → Bool) → count_by test ps ≤ count_by test qs

abbrev pub AsOften : List Packet → List Packet → Type 0
AsOften ps qs = (test : Packet → Bool) → count_by test ps ≡ count_by test qs

-- what came out at a node are left forms of packets begun to it, no oftener than begun
abbrev pub ComesOutWhole : Network → Type 0
ComesOutWhole net = (steps : List Step) (begun : List Begun) (s : State) → RunOf net (empty net) steps begun s → (n : ℕ) → n < net.nodes → (ps : List Packet) → CameOut s n ps → NoOftener ps (sent_to net n begun)

-- where nothing is undelivered, they came out exactly as often
abbrev pub AllComesOut : Network → Type 0
AllComesOut net = (steps : List Step) (begun : List Begun) (s : State) → RunOf net (empty net) steps begun s → undelivered net s ≡ 0 → (n : ℕ) → n < net.nodes → (ps : List Packet) → CameOut s n ps → AsOften ps (sent_to net n begun)

-- a reply that node n began, to an address that passes
abbrev pub is_reply_at : Network → ℕ → (List ℕ → Bool) → Begun → Bool
is_reply_at net n test b = nat_le net.declared_flows b.flow && (nat_eq (net.flow b.flow).from n && test (net.flow b.flow).address)

-- a packet that came out at node n and is answered, to an address that passes
abbrev pub is_answered : Network → ℕ → (List ℕ → Bool) → Packet → Bool
is_answered net n test p = option_map_or test (net.reply_to n p.bytes) false

-- a command to node n that is answered there, to an address that passes
abbrev pub is_answered_at : Network → ℕ → (List ℕ → Bool) → Begun → Bool
is_answered_at net n test b = nat_eq (net.flow b.flow).to n && is_answered net n test (left_form net b)

-- each node begins at most one reply for each answered command that came out there
abbrev pub RepliesAreAsked : Network → Type 0
RepliesAreAsked net = (steps : List Step) (begun : List Begun) (s : State) → RunOf net (empty net) steps begun s → (n : ℕ) → n < net.nodes → (test : List ℕ → Bool) (came : List Packet) → CameOut s n came → count_by (is_reply_at net n test) begun ≤ count_by (is_answered net n test) came

-- so at most one for each answered command to it that was begun
abbrev pub NoMoreRepliesThanCommands : Network → Type 0
NoMoreRepliesThanCommands net = (steps : List Step) (begun : List Begun) (s : State) → RunOf net (empty net) steps begun s → (n : ℕ) → n < net.nodes → (test : List ℕ → Bool) → count_by (is_reply_at net n test) begun ≤ count_by (is_answered_at net n test) begun

-- where nothing is undelivered, it began exactly one for each of these
abbrev pub AllIsAnswered : Network → Type 0
AllIsAnswered net = (steps : List Step) (begun : List Begun) (s : State) → RunOf net (empty net) steps begun s → undelivered net s ≡ 0 → (n : ℕ) → n < net.nodes → (test : List ℕ → Bool) → count_by (is_reply_at net n test) begun ≡ count_by (is_answered_at net n test) begun

-- a packet's characters
abbrev pub length_begun : Network → Begun → ℕ
length_begun net b = length (form net b.flow 0 b.cargo b.end)

abbrev pub characters : Network → List Begun → ℕ
characters net begun = sum_by (length_begun net) begun

-- how many of the steps are no beginnings
abbrev pub moves : List Step → ℕ
moves steps = count_by (λ step. not (is_begin step)) steps

-- a run makes at most so many steps other than beginnings
abbrev pub IsBounded : Network → Type 0
IsBounded net = (steps : List Step) (begun : List Begun) (s : State) → RunOf net (empty net) steps begun s → moves steps ≤ net.channels * (14 + 5 * characters net begun)

-- the packet that a beginning begins
abbrev pub beginning : Step → List Begun
beginning (Begin f cargo end) = record { flow = f; cargo = cargo; end = end } ∷ []
beginning step = []

abbrev pub beginnings : List Step → List Begun
beginnings steps = flat_map beginning steps

-- a packet's characters, and those of its longest reply, if it is answered
abbrev pub length_with_reply : Network → Begun → ℕ
length_with_reply net b = length_begun net b + option_map_or (λ address. length address + (net.longest (net.flow b.flow).to + 1)) (net.reply_to (net.flow b.flow).to (left_bytes net b.flow b.cargo)) 0

-- the packets that its beginnings begin bound a run
abbrev pub IsBoundedByLoad : Network → Type 0
IsBoundedByLoad net = (steps : List Step) (s : State) → Run net (empty net) steps s → length steps ≤ length (beginnings steps) + net.channels * (14 + 5 * sum_by (length_with_reply net) (beginnings steps))
