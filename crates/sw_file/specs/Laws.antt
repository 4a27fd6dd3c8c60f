-- What reading a network file comes to, in each version, and what the rows of a migrated one are.
use Rattle.std.specs.Prelude.{◌≡◌, ◌≢◌, ◌↔◌, ℕ, suc, true, false, pos, All, AllPairs, List, [], length, take, slice_get, Some, Result, Ok}
use Rattle.toml.specs.Data.{Members, integer}
use Rattle.sw_config.specs.Entries.{Declaration, part_names, flow_names, all_flows}
use Rattle.sw_config.specs.Limits.{HasNoLimits, is_limited}
use Rattle.sw_config.specs.Valid.{IsValid}
use Rattle.sw_text.specs.declared.keys.Key.{Key}
use Rattle.sw_text.specs.declared.keys.Key.TheVariants.{Version as VersionKey, Node, Switch, Link, Flow, Target, Route, Reply}
use Rattle.sw_text.specs.declared.keys.Section.TheVariants as section
use Rattle.sw_text.specs.declared.keys.Version.{Version}
use Rattle.sw_text.specs.declared.keys.Version.TheVariants.{Two, Three}
use Rattle.sw_text.specs.declared.fault.TextFault.{TextFault}
use Rattle.sw_text.specs.Table.{tables_or_none, table_or_none}
use Rattle.sw_text.specs.Names.{is_name}
use Rattle.sw_text.specs.KeyLaws.{HasOnly}
use Rattle.sw_text.specs.SectionKeys.{document_keys, node_keys, target_keys, switch_keys, route_keys, link_keys, flow_keys, reply_keys}
use Rattle.sw_file.specs.Nodes.{node_of}
use Rattle.sw_file.specs.Switches.{switch_of}
use Rattle.sw_file.specs.Links.{link_of}
use Rattle.sw_file.specs.FlowTables.{flow_of}
use Rattle.sw_file.specs.Network.{version_of, network_of, network_text}
use Rattle.sw_file.specs.Tables.{IsNetworkText}
use Rattle.sw_file.specs.Rows.{Entry, Row, goes_on, rows}
use Rattle.sw_file.specs.Tree.{with_key}

-- the document's list at the key has one table for each entry, and entry i is what table i declares
pub record Declares {A : Type 0} (key : Key) (ms : Members) (declared : ℕ → Members → Result A TextFault) (entries : List A) : Type 0 where
  pub tables : List Members
  pub listed : tables_or_none section.Document key ms ≡ Ok tables
  pub as_many : length entries ≡ length tables
  pub each : (i : ℕ) (table : Members) (entry : A) → slice_get tables i ≡ Some table → slice_get entries i ≡ Some entry → declared i table ≡ Ok entry

-- the names that are taken where node i is read, and where switch i is read
abbrev pub before_node : Declaration → ℕ → List (List ℕ)
before_node d i = part_names (record d { nodes = take i d.nodes; switches = [] })

abbrev pub before_switch : Declaration → ℕ → List (List ℕ)
before_switch d i = part_names (record d { switches = take i d.switches })

-- each entry of the declaration is what the table of its number declares
pub record IsDeclaredBy (ms : Members) (version : Version) (d : Declaration) : Type 0 where
  pub versioned : version_of ms ≡ Ok version
  pub nodes : Declares Node ms (λ i. node_of version i (before_node d i)) d.nodes
  pub switches : Declares Switch ms (λ i. switch_of version i (before_switch d i)) d.switches
  pub links : Declares Link ms (λ i. link_of version i (length d.nodes) (part_names d)) d.links
  pub flows : Declares Flow ms (λ i. flow_of version i d.nodes (flow_names (take i d.flows))) d.flows

abbrev pub ReadsEachEntry : Type 0
ReadsEachEntry = (ms : Members) (d : Declaration) → network_of ms ≡ Ok d → (version : Version) × IsDeclaredBy ms version d

-- a table of a node has its keys alone, and so has its target
pub record IsKnownNode (version : Version) (i : ℕ) (node : Members) : Type 0 where
  pub keys : HasOnly (node_keys version) node
  pub target : (target : Members) → table_or_none (section.Node i) Target node ≡ Ok (Some target) → HasOnly (target_keys version) target

-- so has a table of a switch, and each entry of its routing table
pub record IsKnownSwitch (version : Version) (i : ℕ) (switch : Members) : Type 0 where
  pub keys : HasOnly switch_keys switch
  pub routes : (routes : List Members) (j : ℕ) (route : Members) → tables_or_none (section.Switch i) Route switch ≡ Ok routes → slice_get routes j ≡ Some route → HasOnly (route_keys version) route

-- so has a table of a flow, and its reply
pub record IsKnownFlow (version : Version) (i : ℕ) (flow : Members) : Type 0 where
  pub keys : HasOnly flow_keys flow
  pub reply : (reply : Members) → table_or_none (section.Flow i) Reply flow ≡ Ok (Some reply) → HasOnly (reply_keys version) reply

-- each table of the document's list at the key is as P says
abbrev pub EachTable : Key → Members → (ℕ → Members → Type 0) → Type 0
EachTable key ms P = (tables : List Members) (i : ℕ) (table : Members) → tables_or_none section.Document key ms ≡ Ok tables → slice_get tables i ≡ Some table → P i table

-- no table of the document has a key that it may not have
pub record IsKnownDocument (version : Version) (ms : Members) : Type 0 where
  pub versioned : version_of ms ≡ Ok version
  pub keys : HasOnly document_keys ms
  pub nodes : EachTable Node ms (IsKnownNode version)
  pub switches : EachTable Switch ms (IsKnownSwitch version)
  pub links : EachTable Link ms (λ i link. HasOnly (link_keys version) link)
  pub flows : EachTable Flow ms (IsKnownFlow version)

-- an unknown key anywhere in the document refuses the text
abbrev pub RefusesUnknownKeys : Type 0
RefusesUnknownKeys = (ms : Members) (d : Declaration) → network_of ms ≡ Ok d → (version : Version) × IsKnownDocument version ms

-- a text is a network exactly where it is one by its words: known keys, counts, ranges, names and references, and a wiring without a fault
abbrev pub NetworksAreReadExactly : Type 0
NetworksAreReadExactly = (bytes : List ℕ) (d : Declaration) → (network_text bytes ≡ Ok d) ↔ IsNetworkText bytes d

-- what is read is a valid network: this follows from the reading alone
abbrev pub ReadNetworksAreValid : Type 0
ReadNetworksAreValid = (bytes : List ℕ) (d : Declaration) → network_text bytes ≡ Ok d → IsValid d

-- each name is 1 to 32 letters, digits, `_`, `-` and `.`; and no two of all flows have one name, reply flows among them, whose names end in `+reply`
pub record HasNames (d : Declaration) : Type 0 where
  pub parts : All (λ name. is_name name ≡ true) (part_names d)
  pub flows : All (λ name. is_name name ≡ true) (flow_names d.flows)
  pub apart : AllPairs (λ x y. x ≢ y) (flow_names (all_flows d))

-- so it is in each network that is read
abbrev pub ReadNamesAreNames : Type 0
ReadNamesAreNames = (bytes : List ℕ) (d : Declaration) → network_text bytes ≡ Ok d → HasNames d

-- the document's table with the number 3 as its version
abbrev pub as_version_three : Members → Members
as_version_three ms = with_key VersionKey (integer (pos 3)) ms

-- a file of version 2 becomes one of version 3 by its number alone, and declares the same network
abbrev pub VersionTwoIsKept : Type 0
VersionTwoIsKept = (ms : Members) (d : Declaration) → version_of ms ≡ Ok Two → network_of ms ≡ Ok d → (version_of (as_version_three ms) ≡ Ok Three) × (network_of (as_version_three ms) ≡ Ok d)

-- no node and no flow has a limit on its unanswered commands, and so no flow is limited
pub record IsUnlimited (d : Declaration) : Type 0 where
  pub none : HasNoLimits d
  pub flows : All (λ f. is_limited d.nodes f ≡ false) (all_flows d)

-- only a file of version 3 limits anything
abbrev pub OlderFilesAreUnlimited : Type 0
OlderFilesAreUnlimited = (ms : Members) (version : Version) (d : Declaration) → version_of ms ≡ Ok version → version ≢ Three → network_of ms ≡ Ok d → IsUnlimited d

-- Rows are the longest: no row's first entry goes on with the row before it.
abbrev pub RowsAreLongest : Type 0
RowsAreLongest = (es : List Entry) (i : ℕ) (r s : Row) → slice_get (rows es) i ≡ Some r → slice_get (rows es) (suc i) ≡ Some s → goes_on r s.first ≡ false
