-- When a step of a node is possible.
use Rattle.std.specs.Prelude.{IsTrue, [], length, ◌<◌, ◌≡◌, ◌⊎◌}
use Rattle.sw_link.specs.Ends.{may_issue}
use Rattle.sw_node.specs.Node.{Node, slots}

-- it sends nothing, and no reply waits
pub record CanBegin (node : Node) : Type 0 where
  pub sends_nothing : node.to_send ≡ []
  pub none_waits : node.pending ≡ []

pub record CanEmit (node : Node) : Type 0 where
  pub sending : 0 < length node.to_send
  pub has_credit : 0 < node.credit

-- it may owe a reply more, and there is a character to take (this project's choice)
pub record CanAccept (node : Node) : Type 0 where
  pub owes_less : node.owed < slots node
  pub not_empty : 0 < length node.received.buffer

pub record CanReply (node : Node) : Type 0 where
  pub waits : 0 < length node.pending
  pub sends_nothing : node.to_send ≡ []

pub record CanIssue (node : Node) : Type 0 where
  pub room : IsTrue (may_issue node.received)

-- some step is possible, apart from beginning a packet and what comes from the link
abbrev pub CanStep : Node → Type 0
CanStep node = CanIssue node ⊎ (CanEmit node ⊎ (CanAccept node ⊎ CanReply node))
