-- A network as its file declares it: the entries of its nodes, switches, links and flows, each list in file order.
use Rattle.std.specs.Prelude.{ℕ, ◌==◌, ◌&&◌, Bool, List, [], ◌∷◌, ◌++◌, map, length, Option, Some, None, codes, is_some, slice_get, option_and_then}
use Rattle.std.specs.List.{list_any, range_with_len}
use Rattle.std.specs.Option.{option_map_or}
use Rattle.sw_route.specs.PlaceEnd.{PlaceEnd}
use Rattle.sw_route.specs.Wiring.{Wiring}
use Rattle.sw_route.specs.declared.look.Look.{Look}
use Rattle.sw_route.specs.declared.look.Route.{Route}
use Rattle.sw_route.specs.Looks.{look_of}
use Rattle.sw_arb.specs.declared.arbitration.Arbitration.{Arbitration}
use Rattle.sw_rmap.specs.declared.config.TargetConfig.{TargetConfig}

-- a node: its name, what it answers by, if it is an RMAP target, and how many of its commands may be unanswered at once, if that is limited
pub record NodeEntry : Type 0 where
  pub name : List ℕ
  pub target : Option TargetConfig
  pub outstanding : Option ℕ

-- a routing switch: its name, how it arbitrates, and its routing table
pub record SwitchEntry : Type 0 where
  pub name : List ℕ
  pub arbitration : Arbitration
  pub routes : List Route

-- a link: its two ends, and how many characters the receive buffer at each end holds
pub record LinkEntry : Type 0 where
  pub a : PlaceEnd
  pub b : PlaceEnd
  pub buffer_a : ℕ
  pub buffer_b : ℕ

-- what the replies of a flow begin with: the path back, and the initiator logical address; and how many of the flow's commands may be
-- unanswered at once, if that is limited
pub record ReplyEntry : Type 0 where
  pub path : List ℕ
  pub initiator : ℕ
  pub outstanding : Option ℕ

-- a flow of packets from one node to another: the address bytes that its packets begin with, how many of them are left at the end,
-- and, where its packets are commands that are answered, where the replies go
pub record FlowEntry : Type 0 where
  pub name : List ℕ
  pub from : ℕ
  pub to : ℕ
  pub address : List ℕ
  pub left : ℕ
  pub reply : Option ReplyEntry

-- all that a network file declares
pub record Declaration : Type 0 where
  pub nodes : List NodeEntry
  pub switches : List SwitchEntry
  pub links : List LinkEntry
  pub flows : List FlowEntry

-- nothing
abbrev pub empty : Declaration
empty = record { nodes = []; switches = []; links = []; flows = [] }

-- the names of the nodes and switches, which share one set of names: nodes first
abbrev pub part_names : Declaration → List (List ℕ)
part_names d = map (λ n. n.name) d.nodes ++ map (λ s. s.name) d.switches

abbrev pub flow_names : List FlowEntry → List (List ℕ)
flow_names fs = map (λ f. f.name) fs

-- what node n answers by, if it is an RMAP target
abbrev pub target_of : List NodeEntry → ℕ → Option TargetConfig
target_of nodes n = option_and_then (λ e. e.target) (slice_get nodes n)

-- the routing table of switch s
abbrev pub routes_of : List SwitchEntry → ℕ → List Route
routes_of switches s = option_map_or (λ e. e.routes) (slice_get switches s) []

-- what a leading byte names at switch s
abbrev pub look_at : List SwitchEntry → ℕ → ℕ → Look
look_at switches s byte = look_of (routes_of switches s) byte

-- the two ends of each link, end a before end b
abbrev pub link_ends : List LinkEntry → List PlaceEnd
link_ends [] = []
link_ends (l ∷ ls) = l.a ∷ l.b ∷ link_ends ls

-- how the parts are joined
abbrev pub wiring_of : Declaration → Wiring
wiring_of d = record { nodes = length d.nodes; switches = length d.switches; ends = link_ends d.links }

-- the receive buffers by channel: channel 2i ends at end b of link i, and channel 2i+1 at its end a
abbrev pub capacities : List LinkEntry → List ℕ
capacities [] = []
capacities (l ∷ ls) = l.buffer_b ∷ l.buffer_a ∷ capacities ls

-- the flow of the replies to a flow: back from its end to its start, by the path and then the initiator's address, which is left
abbrev pub reply_flow : FlowEntry → ReplyEntry → FlowEntry
reply_flow f r = record { name = f.name ++ codes "+reply"; from = f.to; to = f.from; address = r.path ++ r.initiator ∷ []; left = 1; reply = None }

abbrev pub replies_of : FlowEntry → Option ReplyEntry → List FlowEntry
replies_of f None = []
replies_of f (Some r) = reply_flow f r ∷ []

-- the reply flows, in the order of their flows
abbrev pub reply_flows : List FlowEntry → List FlowEntry
reply_flows [] = []
reply_flows (f ∷ fs) = replies_of f f.reply ++ reply_flows fs

-- the packets of the flow are commands to node n, which answers them (ECSS-E-ST-50-52C, the reply bit of a command)
abbrev pub is_answered_at : ℕ → FlowEntry → Bool
is_answered_at n f = is_some f.reply && f.to == n

-- node n answers commands: a flow of such packets goes there
abbrev pub is_answering : Declaration → ℕ → Bool
is_answering d n = list_any (is_answered_at n) d.flows

-- the same of each node, in order
abbrev pub answering_marks : Declaration → List Bool
answering_marks d = map (is_answering d) (range_with_len 0 (length d.nodes))

-- all flows by number: the declared flows, and then the reply flows
abbrev pub all_flows : Declaration → List FlowEntry
all_flows d = d.flows ++ reply_flows d.flows
