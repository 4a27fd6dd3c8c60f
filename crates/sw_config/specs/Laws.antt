-- What holds of the flows of each network.
use Rattle.std.specs.Prelude.{◌≡◌, ◌≢◌, ℕ, ◌+◌, ◌≤◌, is_some, List, length, take, slice_get, count_by, All, AllPairs, Some, None}
use Rattle.sw_config.specs.Entries.{NodeEntry, ReplyEntry, FlowEntry, Declaration, flow_names, reply_flow, reply_flows, all_flows}
use Rattle.sw_config.specs.Valid.{IsFlow, IsValid}

-- how many of the first i flows have replies
abbrev pub replies_before : List FlowEntry → ℕ → ℕ
replies_before flows i = count_by (λ f. is_some f.reply) (take i flows)

-- The reply flow of declared flow i comes after the declared flows and the reply flows of the flows before i.
abbrev pub RepliesFollowInOrder : Type 0
RepliesFollowInOrder =
    (d : Declaration) (i : ℕ) (f : FlowEntry) (r : ReplyEntry) → slice_get d.flows i ≡ Some f → f.reply ≡ Some r → slice_get (all_flows d) (length d.flows + replies_before d.flows i) ≡ Some (reply_flow f r)

-- flow g is where the replies to a declared flow go
pub record IsReplyTo (flows : List FlowEntry) (g : FlowEntry) : Type 0 where
  pub number : ℕ
  pub flow : FlowEntry
  pub entry : ReplyEntry
  pub declared : slice_get flows number ≡ Some flow
  pub replies : flow.reply ≡ Some entry
  pub same : g ≡ reply_flow flow entry

-- Each flow after the declared flows is the reply flow of a declared flow.
abbrev pub LaterFlowsAreReplies : Type 0
LaterFlowsAreReplies = (d : Declaration) (k : ℕ) (g : FlowEntry) → slice_get (all_flows d) (length d.flows + k) ≡ Some g → IsReplyTo d.flows g

-- A reply flow is a flow without replies. It has at most 13 address bytes, the last of which is left.
pub record IsReplyFlow (nodes : List NodeEntry) (g : FlowEntry) : Type 0 where
  pub flow : IsFlow nodes g
  pub address : length g.address ≤ 13
  pub left : g.left ≡ 1
  pub reply : g.reply ≡ None

-- In a valid network each flow, declared or not, goes from node to node as a flow has to, and each reply flow is a reply flow.
abbrev pub FlowsAreValid : Type 0
FlowsAreValid = (d : Declaration) → IsValid d → All (IsFlow d.nodes) (all_flows d) × All (IsReplyFlow d.nodes) (reply_flows d.flows)

-- Where no declared flow's name has a `+`, no two of all flows have one name.
abbrev pub NamesAreDistinct : Type 0
NamesAreDistinct = (d : Declaration) → IsValid d → All (λ f. All (λ b. b ≢ 43) f.name) d.flows → AllPairs (λ x y. x ≢ y) (flow_names (all_flows d))
