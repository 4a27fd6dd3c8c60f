-- The document's lists of parts, each named by the limit of its length.
use Rattle.std.specs.Prelude.{◌≡◌, ℕ, [], length, Result}
use Rattle.toml.specs.Data.{Members}
use Rattle.sw_topo.specs.declared.limits.TheConstants.{MAX_NODES, MAX_SWITCHES, MAX_LINKS}
use Rattle.sw_topo.specs.declared.fault.Limit.{Limit}
use Rattle.sw_topo.specs.declared.fault.Limit.TheVariants.{Nodes, Switches, Links}
use Rattle.sw_topo.specs.declared.fault.TopoFault.TheVariants.{TooMany}
use Rattle.sw_config.specs.Entries.{Declaration}
use Rattle.sw_text.specs.declared.keys.Key.{Key}
use Rattle.sw_text.specs.declared.keys.Key.TheVariants.{Node, Switch, Link}
use Rattle.sw_text.specs.declared.keys.Version.{Version}
use Rattle.sw_text.specs.declared.fault.TextFault.{TextFault}
use Rattle.sw_text.specs.declared.fault.TextFault.TheVariants as fault
use Rattle.sw_text.specs.Gives.{◌>>=◌, walk}
use Rattle.sw_file.specs.Nodes.{next_node}
use Rattle.sw_file.specs.Switches.{next_switch}
use Rattle.sw_file.specs.Links.{next_link}
use Rattle.sw_file.specs.Network.{entries}

-- where the list stands in the document
abbrev pub list_key : Limit → Key
list_key Nodes = Node
list_key Switches = Switch
list_key Links = Link

-- how many entries it may have
abbrev pub most_parts : Limit → ℕ
most_parts Nodes = MAX_NODES
most_parts Switches = MAX_SWITCHES
most_parts Links = MAX_LINKS

-- one more part
abbrev pub next_part : Limit → Version → ℕ → Declaration → Members → Result Declaration TextFault
next_part Nodes = next_node
next_part Switches = next_switch
next_part Links = next_link

-- the parts that the document lists
abbrev pub with_list : Limit → Version → Declaration → Members → Result Declaration TextFault
with_list limit version d ms = do
  tables ← entries (list_key limit) (most_parts limit) (fault.Topology (TooMany limit)) ms
  walk (next_part limit version) d tables

-- so many were added; while nodes are added there is no switch yet
abbrev pub HasParts : Limit → ℕ → Declaration → Type 0
HasParts Nodes n d = (length d.nodes ≡ n) × (d.switches ≡ [])
HasParts Switches n d = length d.switches ≡ n
HasParts Links n d = Unit {0}
