-- What holds of splits: which are tried, and over which channels each flow goes in the network that is left.
use Rattle.std.specs.Prelude.{◌≡◌, ◌≢◌, ◌↔◌, ◌⊎◌, ℕ, ◌+◌, ◌<◌, ◌≤◌, ◌==◌, ◌||◌, ◌&&◌, Bool, true, false, nat_le, Contains, List, length, slice_get, slice_set, Some, None, if◌then◌else◌}
use Rattle.sw_topo.specs.Wiring.{out_of, partner}
use Rattle.sw_topo.specs.declared.place.PlaceEnd.TheVariants.{Node, Switch}
use Rattle.sw_config.specs.Entries.{FlowEntry, Declaration, all_flows, capacities, is_answered_at, is_answering}
use Rattle.sw_config.specs.Valid.{IsTarget, IsValid}
use Rattle.sw_flow.specs.Places.{Follows, IsPlace, end_of, ends_of, out_at}
use Rattle.sw_flow.specs.Faults.{IsWellRouted}
use Rattle.sw_mend.specs.declared.change.TargetLink.{TargetLink}
use Rattle.sw_mend.specs.declared.change.Trial.{Trial}
use Rattle.sw_mend.specs.declared.change.Trial.TheVariants.{Split}
use Rattle.sw_mend.specs.Mends.{AreMends}
use Rattle.sw_mend.specs.Splits.{split, splits}

-- the channel that ends at node n
abbrev pub in_at : Declaration → ℕ → ℕ
in_at d n = partner (out_at d n)

-- the own node's number: it comes behind the other nodes
abbrev pub own_node : Declaration → ℕ
own_node d = length d.nodes

-- ---- which are tried

-- The link is for a target that answers commands, beside that of its node: to the least port of the same switch, 1 to 31, at which no link is, with
-- receive buffers like those of the node's link.
pub record IsTried (d : Declaration) (link : TargetLink) : Type 0 where
  pub target : IsTarget d.nodes link.node
  pub answers : is_answering d link.node ≡ true
  pub leads : end_of d (out_at d link.node) ≡ Some (Switch link.switch link.beside)
  pub low : 1 ≤ link.port
  pub high : link.port ≤ 31
  pub free : out_of (ends_of d) link.switch link.port ≡ None
  pub least : (p : ℕ) → 1 ≤ p → p < link.port → out_of (ends_of d) link.switch p ≢ None
  pub near : slice_get (capacities d.links) (in_at d link.node) ≡ Some link.near
  pub far : slice_get (capacities d.links) (out_at d link.node) ≡ Some link.far

-- these are tried, and no others
abbrev pub SplitsInWords : Type 0
SplitsInWords = (d : Declaration) (link : TargetLink) → IsValid d → (Contains (splits d) link ↔ IsTried d link)

-- ---- channels

-- each channel starts and ends where it did, and the own link's come behind them: from the own node to the port, and back
pub record HasOwnLink (d : Declaration) (link : TargetLink) (left : Declaration) : Type 0 where
  pub starts : (c : ℕ) → c < length (ends_of d) → slice_get (ends_of left) c ≡ slice_get (ends_of d) c
  pub ends : (c : ℕ) → c < length (ends_of d) → end_of left c ≡ end_of d c
  pub behind : out_at left (own_node d) ≡ length (ends_of d)
  pub to_switch : end_of left (out_at left (own_node d)) ≡ Some (Switch link.switch link.port)
  pub to_node : end_of left (in_at left (own_node d)) ≡ Some (Node (own_node d))

abbrev pub SplitsKeepChannels : Type 0
SplitsKeepChannels = (d : Declaration) (link : TargetLink) → IsValid d → Contains (splits d) link → HasOwnLink d link (split d link)

-- ---- flows that stay

-- The packets of the flow of that number are commands that the node answers, or the replies to such commands: reply flows come behind the declared
-- ones, and those from the node are these.
abbrev pub is_of_target : Declaration → ℕ → ℕ → FlowEntry → Bool
is_of_target d node number f = is_answered_at node f || nat_le (length d.flows) number && f.from == node

-- in the network that is left the packets of the flow go over the channels that they went over before, with as many address bytes deleted on each
abbrev pub GoesAsBefore : Declaration → Declaration → FlowEntry → Type 0
GoesAsBefore d left f = (c k : ℕ) → IsPlace left f c k ↔ IsPlace d f c k

-- The flow has its number and its entry in the network that is left, and its packets go over the channels that they went over before. Where they go
-- over another it is that to the own node, where they are wrong: by a port that an entry or an address named before it had a link.
pub record IsKept (d left : Declaration) (number : ℕ) (f : FlowEntry) : Type 0 where
  pub entry : slice_get (all_flows left) number ≡ Some f
  pub before : (c k : ℕ) → IsPlace d f c k → IsPlace left f c k
  pub others : (c k : ℕ) → IsPlace left f c k → IsPlace d f c k ⊎ (c ≡ in_at left (own_node d))
  pub same : IsWellRouted left f → GoesAsBefore d left f

-- each flow that has not to do with the target's commands stays as it is
abbrev pub SplitsKeepOtherFlows : Type 0
SplitsKeepOtherFlows =
    (d : Declaration) (link : TargetLink) → IsValid d → Contains (splits d) link
    → (number : ℕ) (f : FlowEntry) → slice_get (all_flows d) number ≡ Some f → is_of_target d link.node number f ≡ false
    → IsKept d (split d link) number f

-- ---- flows of the target's commands

-- the same of flow g, which has taken the place of flow f, but over the channel `own` in place of the channel `old`
abbrev pub GoesInstead : Declaration → FlowEntry → ℕ → Declaration → FlowEntry → ℕ → Type 0
GoesInstead d f old left g own = (c k : ℕ) → IsPlace left g c k ↔ ((b : ℕ) × IsPlace d f b k × (c ≡ (if b == old then own else b)))

-- the flow comes to the node by its port's path address: that is the last address byte that is deleted, and it is deleted at the node's switch
pub record ComesByPort (d : Declaration) (link : TargetLink) (f : FlowEntry) (last : ℕ) : Type 0 where
  pub deleted : length f.address ≡ f.left + last + 1
  pub named : slice_get f.address last ≡ Some link.beside
  pub there : (c : ℕ) → IsPlace d f c last → (port : ℕ) × (end_of d c ≡ Some (Switch link.switch port))

-- the flow as it goes to the own node: the byte names the port of the own link
abbrev pub to_own_node : Declaration → TargetLink → FlowEntry → ℕ → FlowEntry
to_own_node d link f last = record f { to = own_node d; address = slice_set f.address last link.port }

-- Commands that come to the node by its port go as they went, and at the end over the own link to the own node.
abbrev pub SplitsMoveCommands : Type 0
SplitsMoveCommands =
    (d : Declaration) (link : TargetLink) → IsValid d → Contains (splits d) link
    → (number : ℕ) (f : FlowEntry) (last : ℕ) → slice_get d.flows number ≡ Some f → is_answered_at link.node f ≡ true → ComesByPort d link f last
    → (slice_get (all_flows (split d link)) number ≡ Some (to_own_node d link f last))
    × (IsWellRouted (split d link) (to_own_node d link f last)
    → GoesInstead d f (in_at d link.node) (split d link) (to_own_node d link f last) (in_at (split d link) (own_node d)))

-- the flow of replies as it comes from the own node
abbrev pub from_own_node : Declaration → FlowEntry → FlowEntry
from_own_node d f = record f { from = own_node d }

-- The replies come from the own node over the own link, and then go as they went.
abbrev pub SplitsMoveReplies : Type 0
SplitsMoveReplies =
    (d : Declaration) (link : TargetLink) → IsValid d → Contains (splits d) link
    → (number : ℕ) (f : FlowEntry) → length d.flows ≤ number → slice_get (all_flows d) number ≡ Some f → f.from ≡ link.node
    → (slice_get (all_flows (split d link)) number ≡ Some (from_own_node d f))
    × (IsWellRouted (split d link) (from_own_node d f)
    → GoesInstead d f (out_at d link.node) (split d link) (from_own_node d f) (out_at (split d link) (own_node d)))

-- ---- flows that are delivered

-- a packet of the flow that is on channel c with k address bytes deleted can get to the flow's end
pub data CanArrive (d : Declaration) (f : FlowEntry) : ℕ → ℕ → Type 0 where
  there : {c k : ℕ} → end_of d c ≡ Some (Node f.to) → CanArrive d f c k
  goes : {c k e m : ℕ} → Follows d f c k e m → CanArrive d f e m → CanArrive d f c k

-- wherever packets of the flow can be nothing is wrong, and they can get to the flow's end
pub record IsDelivered (d : Declaration) (f : FlowEntry) : Type 0 where
  pub routed : IsWellRouted d f
  pub arrives : (c k : ℕ) → IsPlace d f c k → CanArrive d f c k

-- Where commands that the target answers are delivered in both networks, they come to the node by its port. (By a logical address they would still
-- come to the node.)
abbrev pub DeliveredComeByPort : Type 0
DeliveredComeByPort =
    (d : Declaration) (link : TargetLink) → IsValid d → Contains (splits d) link
    → (number : ℕ) (f g : FlowEntry) → slice_get d.flows number ≡ Some f → is_answered_at link.node f ≡ true → IsDelivered d f
    → slice_get (all_flows (split d link)) number ≡ Some g → IsDelivered (split d link) g → (last : ℕ) × ComesByPort d link f last

-- ---- of those that are told

-- Other flows stay as they are. Commands that the target answers, and that are delivered, go as they went, and at the end over the own link to the own
-- node. The replies come from there over the own link, and then go as they went.
pub record AreMovedRightly (d : Declaration) (link : TargetLink) (left : Declaration) : Type 0 where
  pub others : (number : ℕ) (f : FlowEntry) → slice_get (all_flows d) number ≡ Some f → is_of_target d link.node number f ≡ false
      → (slice_get (all_flows left) number ≡ Some f) × GoesAsBefore d left f
  pub commands : (number : ℕ) (f : FlowEntry) → slice_get d.flows number ≡ Some f → is_answered_at link.node f ≡ true → IsDelivered d f
      → (last : ℕ) × ComesByPort d link f last × (slice_get (all_flows left) number ≡ Some (to_own_node d link f last))
      × GoesInstead d f (in_at d link.node) left (to_own_node d link f last) (in_at left (own_node d))
  pub replies : (number : ℕ) (f : FlowEntry) → length d.flows ≤ number → slice_get (all_flows d) number ≡ Some f → f.from ≡ link.node
      → (slice_get (all_flows left) number ≡ Some (from_own_node d f)) × GoesInstead d f (out_at d link.node) left (from_own_node d f) (out_at left (own_node d))

-- so it is where a split is told
abbrev pub SplitMendsInWords : Type 0
SplitMendsInWords =
    (d : Declaration) (told : List Trial) (link : TargetLink) → IsValid d → AreMends d told → Contains told (Split link) → AreMovedRightly d link (split d link)
