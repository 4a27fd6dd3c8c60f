-- What each step of a node changes of its cell.
use Rattle.std.specs.Prelude.{List, None, Option, Some, [], drop, map, slice_get, ℕ, ◌++◌, ◌∷◌}
use Rattle.sw_char.specs.declared.nchar.End.{End}
use Rattle.sw_char.specs.declared.nchar.End.TheVariants.{Eep as ByEep, Eop as ByEop}
use Rattle.sw_char.specs.declared.nchar.NChar.{NChar}
use Rattle.sw_char.specs.declared.nchar.NChar.TheVariants.{Data, Eep, Eop}
use Rattle.sw_link.specs.Ends.{Received, spent}
use Rattle.sw_rmap.specs.Owing.{owed_after, owed_with, pending_with, PendingReply, reply_packet}
use Rattle.sw_rmap.specs.Targets.{answer_of, memory_after}
use Rattle.sw_node.specs.Node.{Node, config_of, memory_of, packet_chars}
use Rattle.sw_rmap.specs.Answers.{TargetView}

abbrev pub with_credit : Node → ℕ → Node
with_credit node credit = record node { credit = credit }

abbrev pub with_received : Node → Received → Node
with_received node r = record node { received = r }

-- a packet is to be sent: its address, its cargo, and how it ends
abbrev pub begun : Node → List ℕ → List ℕ → End → Node
begun node address cargo end = record node { to_send = map Data address ++ packet_chars cargo end }

-- the first character to send left for the wire; at a packet's end the node owes the replies that wait
abbrev pub emitted : Node → Node
emitted node = record node {
  to_send = drop 1 node.to_send;
  credit = spent node.credit;
  owed = owed_after (drop 1 node.to_send) node.pending node.owed;
}

-- the reply to the packet under way, if it ends so
abbrev pub reply_by : Node → End → Option PendingReply
reply_by node end = answer_of (config_of node.target) (memory_of node.target) node.bytes end

abbrev pub with_memory : Option TargetView → List ℕ → Option TargetView
with_memory None memory = None
with_memory (Some t) memory = Some (record t { memory = memory })

-- the target after the packet under way, if that ends so
abbrev pub target_by : Node → End → Option TargetView
target_by node end = with_memory node.target (memory_after (config_of node.target) (memory_of node.target) node.bytes end)

-- the reply waits, if there is one
abbrev pub owing : Node → Option PendingReply → Node
owing node reply = record node { pending = pending_with node.pending reply; owed = owed_with node.owed reply }

-- the packet under way has come out, and is answered
abbrev pub completed : Node → End → Node
completed node end = record (owing node (reply_by node end)) {
  target = target_by node end;
  packets = node.packets ++ record { bytes = node.bytes; end = end } ∷ [];
  bytes = [];
}

abbrev pub took : Node → Option NChar → Node
took node None = node
took node (Some (Data byte)) = record node { bytes = node.bytes ++ byte ∷ [] }
took node (Some Eop) = completed node ByEop
took node (Some Eep) = completed node ByEep

abbrev pub without_front : Node → Node
without_front node = record node { received = record (node.received) { buffer = drop 1 node.received.buffer } }

-- the first character in the buffer is taken
abbrev pub accepted : Node → Node
accepted node = without_front (took node (slice_get node.received.buffer 0))

abbrev pub first_reply : List PendingReply → List NChar
first_reply [] = []
first_reply (reply ∷ others) = reply_packet reply

-- the reply that has waited longest is to be sent
abbrev pub replied : Node → Node
replied node = record node { to_send = first_reply node.pending; pending = drop 1 node.pending }
