-- What each network keeps, by its type.
use Rattle.std.specs.Prelude.{◌≡◌, ℕ, zero, ◌<◌, ◌≤◌, Bool, true, false, List, [], ◌∷◌, length, All, IsSome, IfSome, AllPairs, ◌≢◌}
use Rattle.sw_route.specs.Checked.{IsSound}
use Rattle.sw_route.specs.Looks.{IsTable}
use Rattle.sw_rmap.specs.Config.{IsTargetConfig}
use Rattle.sw_config.specs.Entries.{NodeEntry, SwitchEntry, LinkEntry, ReplyEntry, FlowEntry, Declaration, part_names, flow_names, target_of, wiring_of}

-- a limit on unanswered commands is 1 to 65535
pub record IsOutstanding (limit : ℕ) : Type 0 where
  pub low : 1 ≤ limit
  pub high : limit ≤ 65535

pub record IsNode (n : NodeEntry) : Type 0 where
  pub target : IfSome n.target IsTargetConfig
  pub outstanding : IfSome n.outstanding IsOutstanding

-- each entry of the routing table is for logical addresses, and no two are for one in common
abbrev pub IsSwitch : SwitchEntry → Type 0
IsSwitch s = IsTable s.routes

-- the receive buffers hold 8 to 4096 characters
pub record IsLink (l : LinkEntry) : Type 0 where
  pub low_a : 8 ≤ l.buffer_a
  pub high_a : l.buffer_a ≤ 4096
  pub low_b : 8 ≤ l.buffer_b
  pub high_b : l.buffer_b ≤ 4096

-- the list does not begin with a zero
abbrev pub has_no_leading_zero : List ℕ → Bool
has_no_leading_zero [] = true
has_no_leading_zero (zero ∷ bytes) = false
has_no_leading_zero (b ∷ bytes) = true

-- node n is an RMAP target
abbrev pub IsTarget : List NodeEntry → ℕ → Type 0
IsTarget nodes n = IsSome (target_of nodes n)

-- a reply goes by at most 12 path addresses, the first not 0, to a logical address (ECSS-E-ST-50-52C, the reply address field of a command)
pub record IsReply (nodes : List NodeEntry) (to : ℕ) (r : ReplyEntry) : Type 0 where
  pub path : length r.path ≤ 12
  pub leading : has_no_leading_zero r.path ≡ true
  pub low_initiator : 32 ≤ r.initiator
  pub high_initiator : r.initiator ≤ 254
  pub outstanding : IfSome r.outstanding IsOutstanding
  pub target : IsTarget nodes to

-- a flow goes from a node to a node by at most 32 address bytes, no more of which are left at its end than there are
pub record IsFlow (nodes : List NodeEntry) (f : FlowEntry) : Type 0 where
  pub from : f.from < length nodes
  pub to : f.to < length nodes
  pub address : length f.address ≤ 32
  pub left : f.left ≤ length f.address
  pub reply : IfSome f.reply (IsReply nodes f.to)

-- nodes and switches are rightly joined, each entry is in its ranges, and no name is given twice
pub record IsValid (d : Declaration) : Type 0 where
  pub sound : IsSound (wiring_of d)
  pub nodes : All IsNode d.nodes
  pub switches : All IsSwitch d.switches
  pub links : All IsLink d.links
  pub flows : All (IsFlow d.nodes) d.flows
  pub few_flows : length d.flows ≤ 4096
  pub parts_named : AllPairs (λ x y. x ≢ y) (part_names d)
  pub flows_named : AllPairs (λ x y. x ≢ y) (flow_names d.flows)
