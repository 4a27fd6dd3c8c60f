-- What a cell keeps, as a part tells it.
use Rattle.std.specs.Prelude.{List, ℕ}
use Rattle.sw_char.specs.declared.nchar.NChar.{NChar}
use Rattle.sw_machine.specs.Owing.{PendingReply}
use Rattle.sw_node.specs.Node.{Node, memory_of, taken}
use Rattle.sw_switch.specs.Cell.{Cell, credit_at, end_at, input_at}
use Rattle.sw_switch.specs.declared.input.Input.{Input}

-- what is told of a node
pub record NodeView : Type 0 where
  pub to_send : List NChar
  pub pending : List PendingReply  -- the replies that wait, the oldest first
  pub owed : ℕ  -- how many replies it owes
  pub taken : List NChar
  pub memory : List ℕ
  pub credit : ℕ  -- the credit of the channel that starts at the node
  pub buffer : List NChar  -- what came in on the channel that ends there, and was not taken
  pub outstanding : ℕ  -- how many characters were asked for there, and did not arrive yet

-- what is told of a port of a switch
pub record PortView : Type 0 where
  pub port : ℕ
  pub input : Input
  pub credit : ℕ  -- the credit of the channel that starts at the port
  pub buffer : List NChar  -- what came in on the channel that ends there, and was not passed on
  pub outstanding : ℕ  -- how many characters were asked for there, and did not arrive yet

abbrev pub kept_by_node : Node → NodeView
kept_by_node node = record {
  to_send = node.to_send;
  pending = node.pending;
  owed = node.owed;
  taken = taken node;
  memory = memory_of node.target;
  credit = node.credit;
  buffer = node.received.buffer;
  outstanding = node.received.outstanding;
}

abbrev pub kept_at_port : {R A : Type 0} → Cell R A → ℕ → PortView
kept_at_port cell port = record {
  port = port;
  input = input_at cell port;
  credit = credit_at cell port;
  buffer = (end_at cell port).buffer;
  outstanding = (end_at cell port).outstanding;
}
