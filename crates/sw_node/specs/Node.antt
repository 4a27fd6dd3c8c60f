-- The cell of a node: what a node keeps of its channels, its packets and its memory.
use Rattle.std.specs.Prelude.{List, Option, [], ◌++◌, ◌∷◌, length, map, ℕ, ◌≤◌, None, Some}
use Rattle.sw_char.specs.PacketView.{PacketView}
use Rattle.sw_char.specs.Packets.{chars, marker_of}
use Rattle.sw_char.specs.declared.nchar.End.{End}
use Rattle.sw_char.specs.declared.nchar.NChar.{NChar}
use Rattle.sw_char.specs.declared.nchar.NChar.TheVariants.{Data}
use Rattle.sw_link.specs.Ends.{Received}
use Rattle.sw_rmap.specs.Owing.{PendingReply}
use Rattle.sw_rmap.specs.Targets.{memory_at_first, slots_of}
use Rattle.sw_rmap.specs.Answers.{TargetView}
use Rattle.sw_rmap.specs.declared.config.TargetConfig.{TargetConfig}

pub record Node : Type 0 where
  pub target : Option TargetView  -- what it answers by, and its memory, if it is an RMAP target
  pub credit : ℕ  -- the credit of the channel that starts at the node
  pub received : Received  -- the receiving end of the channel that ends there
  pub to_send : List NChar
  pub pending : List PendingReply  -- the replies that wait, the oldest first
  pub owed : ℕ  -- how many replies it owes
  pub packets : List PacketView  -- those that came out
  pub bytes : List ℕ  -- what came of the packet under way

abbrev pub node_of : Option TargetView → ℕ → Received → List NChar → List PendingReply → ℕ → List PacketView → List ℕ → Node
node_of target credit received to_send pending owed packets bytes = record {
  target = target;
  credit = credit;
  received = received;
  to_send = to_send;
  pending = pending;
  owed = owed;
  packets = packets;
  bytes = bytes;
}

abbrev pub config_of : Option TargetView → Option TargetConfig
config_of None = None
config_of (Some t) = Some t.config

-- a plain node has no memory
abbrev pub memory_of : Option TargetView → List ℕ
memory_of None = []
memory_of (Some t) = t.memory

-- how many replies it may owe
abbrev pub slots : Node → ℕ
slots node = slots_of (config_of node.target)

-- the characters that it took
abbrev pub taken : Node → List NChar
taken node = chars node.packets ++ map Data node.bytes

-- it owes each reply that waits, and no more than it may
pub record IsNode (node : Node) : Type 0 where
  pub waiting : length node.pending ≤ node.owed
  pub within : node.owed ≤ slots node
  pub few : slots node ≤ 64

-- a packet's characters
abbrev pub packet_chars : List ℕ → End → List NChar
packet_chars bytes end = map Data bytes ++ marker_of end ∷ []

-- a target whose memory holds zeros
abbrev pub target_at_first : Option TargetConfig → Option TargetView
target_at_first None = None
target_at_first (Some t) = Some (record { config = t; memory = memory_at_first (Some t) })

abbrev pub new_node : Option TargetConfig → ℕ → Node
new_node target capacity = node_of (target_at_first target) 0 (record { buffer = []; outstanding = 0; capacity = capacity }) [] [] 0 [] []
