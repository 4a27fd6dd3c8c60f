-- The tables of a network file in words: which keys each may have, what stands there, and the entry that it is for.
-- (The format of the file is this project's choice.)
use Rattle.std.specs.Prelude.{◌≡◌, ◌≢◌, ◌≤◌, ◌<◌, ◌+◌, ℕ, true, false, List, [], length, position, Option, Some, None, IfSome, Ok, AllPairs}
use Rattle.std.specs.Str.{bytes_eq}
use Rattle.toml.specs.Data.{Data, Members}
use Rattle.sw_topo.specs.declared.limits.TheConstants.{MAX_NODES, MAX_SWITCHES, MAX_LINKS, MAX_FLOWS}
use Rattle.sw_topo.specs.declared.place.PlaceEnd.{PlaceEnd}
use Rattle.sw_topo.specs.declared.place.PlaceEnd.TheVariants as places
use Rattle.sw_topo.specs.Ports.{port_set}
use Rattle.sw_topo.specs.Checked.{fault_of}
use Rattle.sw_route.specs.declared.look.Route.{Route as RouteEntry}
use Rattle.sw_route.specs.Looks.{overlaps}
use Rattle.sw_arb.specs.declared.arbitration.Arbitration.{Arbitration}
use Rattle.sw_arb.specs.declared.arbitration.Arbitration.TheVariants.{RoundRobin}
use Rattle.sw_rmap.specs.declared.config.TargetConfig.{TargetConfig}
use Rattle.sw_config.specs.Entries.{NodeEntry, SwitchEntry, LinkEntry, ReplyEntry, FlowEntry, Declaration, part_names, flow_names, wiring_of}
use Rattle.sw_config.specs.Valid.{IsReply}
use Rattle.sw_text.specs.declared.keys.Key.{Key}
use Rattle.sw_text.specs.declared.keys.Key.TheVariants.{Version as VersionKey, Node, Switch, Link, Flow, Name, Target, Logical, TargetKey, Start, Size, Slots, Arbiter, Route, Address, Last, Ports, Delete, A, APort, B, BPort, Buffer, BufferA, BufferB, From, To, Left, Reply, Path, Initiator, Outstanding}
use Rattle.sw_text.specs.declared.keys.Version.{Version}
use Rattle.sw_text.specs.declared.keys.Version.TheVariants.{One, Two, Three}
use Rattle.sw_text.specs.Document.{document_of}
use Rattle.sw_text.specs.KeyLaws.{HasOnly}
use Rattle.sw_text.specs.Names.{is_name}
use Rattle.sw_text.specs.SectionKeys.{document_keys, node_keys, target_keys, switch_keys, route_keys, link_keys, flow_keys, reply_keys}
use Rattle.sw_file.specs.Keys.{most_slots}
use Rattle.sw_file.specs.Switches.{arbitration_named}
use Rattle.sw_file.specs.FlowTables.{node_names}
use Rattle.sw_file.specs.Values.{IsText, IsFlag, IsNumber, IsListOf, IsTableOf, Lacks, Has, HasOr, HasIfAny, HasTables}

-- the table has this name: 1 to 32 letters, digits, `_`, `-` and `.`
pub record IsNamed (ms : Members) (name : List ℕ) : Type 0 where
  pub text : Has IsText Name ms name
  pub form : is_name name ≡ true

-- at the key stands one of these names, which is that of number i
pub record Refers (names : List (List ℕ)) (key : Key) (ms : Members) (i : ℕ) : Type 0 where
  pub name : List ℕ
  pub text : Has IsText key ms name
  pub number : position (bytes_eq name) names ≡ Some i

-- what a node answers by as an RMAP target; its window ends at 2 ^ 40 at the latest
pub record IsTargetTable (version : Version) (ms : Members) (c : TargetConfig) : Type 0 where
  pub keys : HasOnly (target_keys version) ms
  pub logical : Has (IsNumber 32 254) Logical ms c.logical
  pub key : HasOr (IsNumber 0 255) 0 TargetKey ms c.key
  pub start : HasOr (IsNumber 0 1099511627775) 0 Start ms c.start
  pub size : Has (IsNumber 1 65536) Size ms c.size
  pub window : c.start + c.size ≤ 1099511627776
  pub slots : HasOr (IsNumber 1 (most_slots version)) 1 Slots ms c.slots

-- at the key `outstanding` stands how many commands may be unanswered at once, if that is limited
abbrev pub HasOutstanding : Members → Option ℕ → Type 0
HasOutstanding ms outstanding = HasIfAny (IsNumber 1 65535) Outstanding ms outstanding

-- a node, which is a target where it has a table `target`
pub record IsNodeTable (version : Version) (ms : Members) (node : NodeEntry) : Type 0 where
  pub keys : HasOnly (node_keys version) ms
  pub named : IsNamed ms node.name
  pub target : HasIfAny (IsTableOf (IsTargetTable version)) Target ms node.target
  pub outstanding : HasOutstanding ms node.outstanding

-- the value is the name of this arbitration
pub record IsArbitration (value : Data) (arbitration : Arbitration) : Type 0 where
  pub name : List ℕ
  pub text : IsText value name
  pub named : arbitration_named name ≡ Some arbitration

-- at the key `ports` stand 1 to 32 numbers of ports, which make this set
pub record HasPorts (ms : Members) (ports : ℕ) : Type 0 where
  pub numbers : List ℕ
  pub listed : Has (IsListOf (IsNumber 0 31)) Ports ms numbers
  pub some : 1 ≤ length numbers
  pub few : length numbers ≤ 32
  pub set : ports ≡ port_set numbers

-- an entry of a routing table: its first and last address, its ports, and whether the address is deleted there
pub record IsRouteTable (version : Version) (ms : Members) (route : RouteEntry) : Type 0 where
  pub keys : HasOnly (route_keys version) ms
  pub first : Has (IsNumber 32 254) Address ms route.first
  pub last : HasOr (IsNumber route.first 254) route.first Last ms route.last
  pub ports : HasPorts ms route.ports
  pub delete : HasOr IsFlag false Delete ms route.delete

-- a switch; no two entries of its routing table are for an address in common
pub record IsSwitchTable (version : Version) (ms : Members) (switch : SwitchEntry) : Type 0 where
  pub keys : HasOnly switch_keys ms
  pub named : IsNamed ms switch.name
  pub arbitration : HasOr IsArbitration RoundRobin Arbiter ms switch.arbitration
  pub routes : HasTables (IsRouteTable version) Route ms switch.routes
  pub apart : AllPairs (λ r q. overlaps r q ≡ false) switch.routes

-- an end of a link, among so many nodes and these names of the nodes and then the switches: a port stands beside a switch alone
abbrev pub HasEnd : Key → Key → ℕ → List (List ℕ) → Members → PlaceEnd → Type 0
HasEnd key port nodes names ms (places.Node n) = Refers names key ms n × (n < nodes) × Lacks port ms
HasEnd key port nodes names ms (places.Switch s p) = Refers names key ms (nodes + s) × Has (IsNumber 0 31) port ms p

-- a link; the buffers at both ends have what `buffer` says, where their own keys don't say another
pub record IsLinkTable (version : Version) (nodes : ℕ) (names : List (List ℕ)) (ms : Members) (link : LinkEntry) : Type 0 where
  pub keys : HasOnly (link_keys version) ms
  pub a : HasEnd A APort nodes names ms link.a
  pub b : HasEnd B BPort nodes names ms link.b
  pub buffer : ℕ
  pub both : HasOr (IsNumber 8 4096) 64 Buffer ms buffer
  pub buffer_a : HasOr (IsNumber 8 4096) buffer BufferA ms link.buffer_a
  pub buffer_b : HasOr (IsNumber 8 4096) buffer BufferB ms link.buffer_b

-- the numbers of bytes at a key, none where nothing stands there
abbrev pub HasBytes : Key → Members → List ℕ → Type 0
HasBytes key ms bytes = HasOr (IsListOf (IsNumber 0 255)) [] key ms bytes

-- where the replies of a flow go, and how many of its commands may be unanswered
pub record IsReplyTable (version : Version) (ms : Members) (reply : ReplyEntry) : Type 0 where
  pub keys : HasOnly (reply_keys version) ms
  pub path : HasBytes Path ms reply.path
  pub initiator : Has (IsNumber 0 255) Initiator ms reply.initiator
  pub outstanding : HasOutstanding ms reply.outstanding

-- a flow; replies, if there are any, can come back from the node `to`
pub record IsFlowTable (version : Version) (nodes : List NodeEntry) (ms : Members) (flow : FlowEntry) : Type 0 where
  pub keys : HasOnly flow_keys ms
  pub named : IsNamed ms flow.name
  pub from : Refers (node_names nodes) From ms flow.from
  pub to : Refers (node_names nodes) To ms flow.to
  pub address : HasBytes Address ms flow.address
  pub few : length flow.address ≤ 32
  pub left : HasOr (IsNumber 0 (length flow.address)) 0 Left ms flow.left
  pub reply : HasIfAny (IsTableOf (IsReplyTable version)) Reply ms flow.reply
  pub way : IfSome flow.reply (IsReply nodes flow.to)

-- how a file writes its version
abbrev pub version_number : Version → ℕ
version_number One = 1
version_number Two = 2
version_number Three = 3

-- The document declares this network: it has known keys alone and a version; each list is not too long, and each of its tables is for its
-- entry; no two parts and no two flows have one name; and the parts are rightly joined.
pub record IsNetworkTable (version : Version) (ms : Members) (d : Declaration) : Type 0 where
  pub keys : HasOnly document_keys ms
  pub versioned : Has (IsNumber 1 3) VersionKey ms (version_number version)
  pub nodes : HasTables (IsNodeTable version) Node ms d.nodes
  pub switches : HasTables (IsSwitchTable version) Switch ms d.switches
  pub links : HasTables (IsLinkTable version (length d.nodes) (part_names d)) Link ms d.links
  pub flows : HasTables (IsFlowTable version d.nodes) Flow ms d.flows
  pub few_nodes : length d.nodes ≤ MAX_NODES
  pub few_switches : length d.switches ≤ MAX_SWITCHES
  pub few_links : length d.links ≤ MAX_LINKS
  pub few_flows : length d.flows ≤ MAX_FLOWS
  pub parts_named : AllPairs (λ x y. x ≢ y) (part_names d)
  pub flows_named : AllPairs (λ x y. x ≢ y) (flow_names d.flows)
  pub joined : fault_of (wiring_of d) ≡ None

-- the text is a TOML document that declares this network
pub record IsNetworkText (bytes : List ℕ) (d : Declaration) : Type 0 where
  pub table : Members
  pub document : document_of bytes ≡ Ok table
  pub version : Version
  pub network : IsNetworkTable version table d
