-- A network as its machine sees it: channels, switches, nodes and flows, by their numbers.
use Rattle.std.specs.Option.{option_map}
use Rattle.std.specs.Prelude.{Bool, Contains, List, None, Option, Some, [], drop, if◌then◌else◌, is_some, length, map, nat_eq, true, ℕ, ◌%◌, ◌++◌, ◌+◌, ◌-◌, ◌<◌, ◌∷◌, ◌≡◌, ◌≤◌}
use Rattle.sw_char.specs.declared.nchar.End.{End}
use Rattle.sw_char.specs.declared.nchar.NChar.{NChar}
use Rattle.sw_char.specs.declared.nchar.NChar.TheVariants.{Data}
use Rattle.sw_machine.specs.Packets.{marker_of}
use Rattle.sw_rmap.specs.Owing.{PendingReply}

-- where a channel starts or ends: a node, or a routing switch
pub data Cell : Type 0 where
  AtNode : (node : ℕ) → Cell
  AtSwitch : (switch : ℕ) → Cell

-- a flow of packets from node to node: the address bytes that they begin with, how many of these are left at the end (ECSS-E-ST-50-12C,
-- 5.6.8: path addresses are deleted on the way), and the number of the flow of their replies, if they are answered
pub record Flow : Type 0 where
  pub from : ℕ
  pub to : ℕ
  pub address : List ℕ
  pub left : ℕ
  pub reply : Option ℕ

-- a place of a flow: a channel, and how many address bytes are deleted before it
pub record Place : Type 0 where
  pub channel : ℕ
  pub deleted : ℕ

pub record Network : Type 0 where
  pub channels : ℕ
  pub start_of : ℕ → Cell
  pub end_of : ℕ → Cell
  pub capacity : ℕ → ℕ  -- how many characters the receive buffer of a channel holds
  pub nodes : ℕ
  pub out : ℕ → ℕ  -- the channel that starts at a node
  pub into : ℕ → ℕ  -- the channel that ends at a node
  pub look : ℕ → ℕ → List ℕ  -- at a switch, the channels that start at a linked port that a leading byte names
  pub deletes : ℕ → ℕ → Bool  -- whether the switch deletes that byte
  pub declared_flows : ℕ  -- the flows below are declared, the others are those of replies
  pub flows : ℕ
  pub flow : ℕ → Flow
  pub reply_to : ℕ → List ℕ → Option (List ℕ)  -- at a node, the address to which a packet of these bytes is answered
  pub answer : ℕ → List ℕ → List ℕ → End → Option PendingReply  -- at a node with this memory, the reply to a packet
  pub longest : ℕ → ℕ  -- how many bytes a reply of a node has behind its address, at most
  pub slots : ℕ → ℕ  -- how many replies a node may owe
  pub limited : ℕ → Bool  -- whether each packet of a flow is a command that is answered, and how many of them may be unanswered is limited
  pub limit : ℕ → Option ℕ  -- how many commands may be unanswered at a node, if each flow of them is limited
  pub memory_after : ℕ → List ℕ → List ℕ → End → List ℕ  -- at a node with this memory, the memory after a packet
  pub memory_at_first : ℕ → List ℕ

-- what the nodes of a network do with the packets that come, by the protocol that they speak
pub record Protocol : Type 0 where
  pub reply_to : ℕ → List ℕ → Option (List ℕ)  -- at a node, the address to which a packet of these bytes is answered
  pub answer : ℕ → List ℕ → List ℕ → End → Option PendingReply  -- at a node with this memory, the reply to a packet
  pub longest : ℕ → ℕ  -- how many bytes a reply of a node has behind its address, at most
  pub memory_after : ℕ → List ℕ → List ℕ → End → List ℕ  -- at a node with this memory, the memory after a packet
  pub memory_at_first : ℕ → List ℕ

-- the other channel of the link: link i has the channels 2i and 2i+1
abbrev pub reverse_of : ℕ → ℕ
reverse_of c = if nat_eq (c % 2) 0 then c + 1 else c - 1

-- a packet of flow i with k address bytes deleted
abbrev pub form : Network → ℕ → ℕ → List ℕ → End → List NChar
form net i k cargo end = map Data (drop k (net.flow i).address) ++ (map Data cargo ++ marker_of end ∷ [])

-- the bytes that the node at the end of flow i gets: the address bytes that are left, and the cargo
abbrev pub left_bytes : Network → ℕ → List ℕ → List ℕ
left_bytes net i cargo = drop (length (net.flow i).address - (net.flow i).left) (net.flow i).address ++ cargo

-- a packet's answer, if any, goes by the flow's reply flow
abbrev pub AnsweredBy : Network → ℕ → Option (List ℕ) → Type 0
AnsweredBy net i None = Unit {0}
AnsweredBy net i (Some address) = (j : ℕ) × ((net.flow i).reply ≡ Some j) × ((net.flow j).address ≡ address)

-- the cargo is that of a declared packet of flow i (this project's choice)
pub record IsDeclared (net : Network) (i : ℕ) (cargo : List ℕ) : Type 0 where
  pub declared : i < net.declared_flows
  pub some_cargo : 0 < length cargo
  pub within : length cargo ≤ 33554432
  pub answered : AnsweredBy net i (net.reply_to (net.flow i).to (left_bytes net i cargo))
  pub command : net.limited i ≡ true → is_some (net.reply_to (net.flow i).to (left_bytes net i cargo)) ≡ true

-- flow j is that of the replies to flow i: it goes back, with the initiator logical address left, and is not answered
pub record IsReplyFlow (net : Network) (i j : ℕ) : Type 0 where
  pub in_flows : j < net.flows
  pub after_declared : net.declared_flows ≤ j
  pub from : (net.flow j).from ≡ (net.flow i).to
  pub to : (net.flow j).to ≡ (net.flow i).from
  pub left : (net.flow j).left ≡ 1
  pub unanswered : (net.flow j).reply ≡ None

-- what the nodes answer fits: all that the theorem asks of the protocol by which they do
pub record AnswersFit (net : Network) : Type 0 where
  -- whether a reply comes, and where it goes, depends on neither memory nor end marker (ECSS-E-ST-50-52C: reply address field)
  pub reply_goes : (n : ℕ) (memory bytes : List ℕ) (end : End) → n < net.nodes → option_map (λ (r : PendingReply). r.address) (net.answer n memory bytes end) ≡ net.reply_to n bytes
  pub reply_length : (n : ℕ) (memory bytes : List ℕ) (r : PendingReply) (end : End) → n < net.nodes → net.answer n memory bytes end ≡ Some r → length r.cargo ≤ net.longest n
  -- a reply gets no answer
  pub replies_end : (i j n : ℕ) (memory bytes : List ℕ) (r : PendingReply) (end : End) → i < net.flows → n < net.nodes → (net.flow i).reply ≡ Some j → net.answer n memory bytes end ≡ Some r → r.address ≡ (net.flow j).address → net.reply_to (net.flow j).to (left_bytes net j r.cargo) ≡ None

-- what holds of each network
pub record IsNetwork (net : Network) : Type 0 where
  pub room : (c : ℕ) → c < net.channels → 8 ≤ net.capacity c
  pub reversed : (c : ℕ) → c < net.channels → (reverse_of c < net.channels) × (net.start_of (reverse_of c) ≡ net.end_of c)
  pub starts_at_node : (c n : ℕ) → c < net.channels → net.start_of c ≡ AtNode n → (n < net.nodes) × (net.out n ≡ c)
  pub ends_at_node : (c n : ℕ) → c < net.channels → net.end_of c ≡ AtNode n → (n < net.nodes) × (net.into n ≡ c)
  pub out_starts : (n : ℕ) → n < net.nodes → (net.out n < net.channels) × (net.start_of (net.out n) ≡ AtNode n)
  pub into_ends : (n : ℕ) → n < net.nodes → (net.into n < net.channels) × (net.end_of (net.into n) ≡ AtNode n)
  pub look_starts : (s h d : ℕ) → Contains (net.look s h) d → (d < net.channels) × (net.start_of d ≡ AtSwitch s)
  pub flows_declared : net.declared_flows ≤ net.flows
  pub flow_ends : (i : ℕ) → i < net.flows → ((net.flow i).from < net.nodes) × ((net.flow i).to < net.nodes)
  pub reply_flow : (i j : ℕ) → i < net.flows → (net.flow i).reply ≡ Some j → IsReplyFlow net i j
  pub no_flow : (i : ℕ) → net.flows ≤ i → (net.flow i).reply ≡ None
  -- a flow of replies is never limited
  pub limited_flow : (i : ℕ) → net.limited i ≡ true → i < net.declared_flows
  pub slot : (n : ℕ) → n < net.nodes → 0 < net.slots n
  pub answers : AnswersFit net
