-- Where the faulted table or key stands.
use Rattle.std.specs.Prelude.{◌≡◌, ◌⊎◌, ◌≤◌, ℕ, IfSome, List, Option, Some, None, length, option_map}
use Rattle.sw_topo.specs.declared.fault.Limit.{Limit}
use Rattle.sw_topo.specs.declared.fault.Limit.TheVariants.{Nodes, Switches, Links}
use Rattle.sw_topo.specs.declared.fault.TopoFault.{TopoFault}
use Rattle.sw_topo.specs.declared.fault.TopoFault.TheVariants.{TooMany, PortTaken, NodeLinks, PortUnlinked}
use Rattle.sw_text.specs.declared.keys.Key.{Key as TableKey}
use Rattle.sw_text.specs.declared.keys.Key.TheVariants as key
use Rattle.sw_text.specs.declared.keys.Section.{Section}
use Rattle.sw_text.specs.declared.keys.Section.TheVariants as section
use Rattle.sw_text.specs.declared.fault.KeyFault.TheVariants.{MissingKey}
use Rattle.sw_text.specs.declared.fault.TextFault.{TextFault}
use Rattle.sw_text.specs.declared.fault.TextFault.TheVariants.{Syntax, UnknownKey, Key, Topology, DuplicateRoute, ReplyShape, NotInFlow}
use Rattle.sw_text.specs.declared.sections.Standing.{Standing}
use Rattle.sw_text.specs.Keys.{key_text}
use Rattle.sw_text.specs.Sections.{standing}
use Rattle.sw_faults.specs.declared.sought.Sought.{Sought}
use Rattle.sw_faults.specs.Places.{IsPlace}

-- a table, or a key of it
abbrev pub Shown : Type 0
Shown = Section × Option (List ℕ)

abbrev pub sought_view : Sought → Shown
sought_view s = (s.section, option_map (λ k. k.now) s.key)

-- of an entry its beginning, of a table in an entry its key; the document begins with the text
abbrev pub table_to_show : Section → Option Shown
table_to_show s = shown_of s (standing s)
  where
    by_number : Section → Standing → Option ℕ → Option Shown
    by_number s place None = Some (place.within, Some (key_text place.key))
    by_number s place (Some number) = Some (s, None)

    shown_of : Section → Option Standing → Option Shown
    shown_of s None = None
    shown_of s (Some place) = by_number s place place.number

abbrev pub long_list : Limit → TableKey
long_list Nodes = key.Node
long_list Switches = key.Switch
long_list Links = key.Link

abbrev pub topology_sought : TopoFault → Option Shown
topology_sought (TooMany limit) = Some (section.Document, Some (key_text (long_list limit)))
topology_sought (PortTaken link) = table_to_show (section.Link link)
topology_sought (NodeLinks node) = table_to_show (section.Node node)
topology_sought (PortUnlinked switch) = table_to_show (section.Switch switch)

-- the table or the key that has the fault
abbrev pub sought_of : TextFault → Option Shown
sought_of Syntax = None
sought_of (UnknownKey s name) = Some (s, Some name)
sought_of (Key MissingKey s k) = table_to_show s
sought_of (Key _ s k) = Some (s, Some (key_text k))
sought_of (Topology fault) = topology_sought fault
sought_of (DuplicateRoute switch route) = table_to_show (section.Route switch route)
sought_of (ReplyShape flow) = table_to_show (section.Reply flow)
sought_of (NotInFlow packet) = table_to_show (section.Packet packet)

-- what stands at the offset has the fault; of a fault that no table or key has, none does
abbrev pub StandsAt : List ℕ → Option Shown → ℕ → Type 0
StandsAt text None at = ⊥
StandsAt text (Some s) at = IsPlace text s.0 s.1 at

-- the offset, if there is one, is in the text, and of the table or the key that has the fault; of a text that is no TOML any may be
abbrev pub IsFaultPlace : List ℕ → TextFault → Option ℕ → Type 0
IsFaultPlace text fault place =
    IfSome place (λ at. (at ≤ length text) × ((fault ≡ Syntax) ⊎ StandsAt text (sought_of fault) at))
