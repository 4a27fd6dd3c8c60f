-- The network that a text declares, or its first fault, in the order in which the text is walked: the document's keys, then the nodes,
-- the switches and the links, list by list and each list's length before its entries, then how they are joined, and then the flows.
use Rattle.std.specs.Prelude.{ℕ, nat_le, ◌==◌, List, length, Option, Some, None, Result, Ok, Err, if◌then◌else◌}
use Rattle.toml.specs.Data.{Members}
use Rattle.sw_topo.specs.declared.limits.TheConstants.{MAX_NODES, MAX_SWITCHES, MAX_LINKS, MAX_FLOWS}
use Rattle.sw_topo.specs.declared.fault.Limit.TheVariants.{Nodes, Switches, Links}
use Rattle.sw_topo.specs.declared.fault.TopoFault.{TopoFault}
use Rattle.sw_topo.specs.declared.fault.TopoFault.TheVariants.{TooMany}
use Rattle.sw_topo.specs.Checked.{fault_of}
use Rattle.sw_config.specs.Entries.{Declaration, empty, wiring_of}
use Rattle.sw_text.specs.declared.keys.Key.{Key}
use Rattle.sw_text.specs.declared.keys.Key.TheVariants.{Version as VersionKey, Node, Switch, Link, Flow}
use Rattle.sw_text.specs.declared.keys.Section.TheVariants.{Document}
use Rattle.sw_text.specs.declared.keys.Version.{Version}
use Rattle.sw_text.specs.declared.keys.Version.TheVariants.{One, Two, Three}
use Rattle.sw_text.specs.declared.fault.KeyFault.TheVariants.{OutOfRange}
use Rattle.sw_text.specs.declared.fault.TextFault.{TextFault}
use Rattle.sw_text.specs.declared.fault.TextFault.TheVariants as fault
use Rattle.sw_text.specs.Gives.{◌>>=◌, walk}
use Rattle.sw_text.specs.Table.{only_known, number_at, tables_or_none}
use Rattle.sw_text.specs.Document.{document_of}
use Rattle.sw_text.specs.SectionKeys.{document_keys}
use Rattle.sw_file.specs.Nodes.{next_node}
use Rattle.sw_file.specs.Switches.{next_switch}
use Rattle.sw_file.specs.Links.{next_link}
use Rattle.sw_file.specs.FlowTables.{next_flow}

-- the version of that number
abbrev pub version_numbered : ℕ → Version
version_numbered n = if n == 1 then One else if n == 2 then Two else Three

-- the document has its keys alone, and its version is 1 to 3
unfoldable pub version_of : Members → Result Version TextFault
version_of ms = do
  known ← only_known Document document_keys ms
  n ← number_at Document VersionKey 1 3 ms
  Ok (version_numbered n)

-- the tables of one of the document's lists, which are counted before they are looked at
abbrev pub entries : Key → ℕ → TextFault → Members → Result (List Members) TextFault
entries key most over ms = do
  tables ← tables_or_none Document key ms
  if nat_le (length tables) most then Ok tables else Err over

-- the nodes that the document lists
unfoldable pub with_nodes : Version → Declaration → Members → Result Declaration TextFault
with_nodes version d ms = do
  tables ← entries Node MAX_NODES (fault.Topology (TooMany Nodes)) ms
  walk (next_node version) d tables

-- the switches that it lists
unfoldable pub with_switches : Version → Declaration → Members → Result Declaration TextFault
with_switches version d ms = do
  tables ← entries Switch MAX_SWITCHES (fault.Topology (TooMany Switches)) ms
  walk (next_switch version) d tables

-- the links that it lists
unfoldable pub with_links : Version → Declaration → Members → Result Declaration TextFault
with_links version d ms = do
  tables ← entries Link MAX_LINKS (fault.Topology (TooMany Links)) ms
  walk (next_link version) d tables

-- nodes and switches are rightly joined by the links
abbrev pub wired : Declaration → Result Declaration TextFault
wired d = unless (fault_of (wiring_of d))
  where
    unless : Option TopoFault → Result Declaration TextFault
    unless None = Ok d
    unless (Some f) = Err (fault.Topology f)

-- the flows that it lists
unfoldable pub with_flows : Version → Declaration → Members → Result Declaration TextFault
with_flows version d ms = do
  tables ← entries Flow MAX_FLOWS (fault.Key OutOfRange Document Flow) ms
  walk (next_flow version) d tables

-- the nodes, the switches and the links that it lists
unfoldable pub with_parts : Version → Declaration → Members → Result Declaration TextFault
with_parts version d ms = do
  nodes ← with_nodes version d ms
  switches ← with_switches version nodes ms
  with_links version switches ms

-- the network that the document's table declares, or the first fault that is met in it
unfoldable pub network_of : Members → Result Declaration TextFault
network_of ms = do
  version ← version_of ms
  parts ← with_parts version empty ms
  network ← wired parts
  with_flows version network ms

-- the network that a text declares, or its first fault
abbrev pub network_text : List ℕ → Result Declaration TextFault
network_text bytes = document_of bytes >>= network_of
