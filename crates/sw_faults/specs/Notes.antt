-- What there is to note of a fault (this project's choice).
use Rattle.std.specs.Prelude.{ℕ, List, [], ◌∷◌, Option, Some, None, if◌then◌else◌, map, nat_lt, option_and_then, option_map, option_to_list, take}
use Rattle.toml.specs.Data.{Members}
use Rattle.sw_topo.specs.Checked.{first_of}
use Rattle.sw_topo.specs.declared.fault.TopoFault.{TopoFault}
use Rattle.sw_topo.specs.declared.fault.TopoFault.TheVariants.{TooMany, PortTaken, NodeLinks, PortUnlinked}
use Rattle.sw_text.specs.declared.keys.Key.{Key as TableKey}
use Rattle.sw_text.specs.declared.keys.Key.TheVariants as key
use Rattle.sw_text.specs.declared.keys.Section.{Section}
use Rattle.sw_text.specs.declared.keys.Section.TheVariants as section
use Rattle.sw_text.specs.declared.fault.KeyFault.TheVariants.{DuplicateName}
use Rattle.sw_text.specs.declared.fault.TextFault.{TextFault}
use Rattle.sw_text.specs.declared.fault.TextFault.TheVariants.{Key, Topology, DuplicateRoute, ReplyShape}
use Rattle.sw_faults.specs.Lookup.{table_of}
use Rattle.sw_faults.specs.declared.note.Note.{Note}
use Rattle.sw_faults.specs.declared.note.Note.TheVariants.{HasName, Unlinked, LinkHere, HasPort, IsFor}
use Rattle.sw_faults.specs.Entries.{number_in, range_in, text_in, text_of}
use Rattle.sw_faults.specs.Finding.{first_index, indices_of}
use Rattle.sw_faults.specs.Passing.{has_end, is_at, overlaps}
use Rattle.sw_faults.specs.ReplyNotes.{named, reply_notes}

-- an entry of the nodes, the switches or the flows, by its number
abbrev pub entry_in : TableKey → ℕ → Section
entry_in key.Switch = section.Switch
entry_in key.Flow = section.Flow
entry_in _ = section.Node

-- the first entry of the name, of all those that share one set of names with this one: nodes and switches share one, flows have their own
abbrev pub holder : Section → List ℕ → Members → Option Section
holder (section.Node i) name document = option_map section.Node (named key.Node name document)
holder (section.Switch i) name document = first_of (option_map section.Node (named key.Node name document)) (option_map section.Switch (named key.Switch name document))
holder (section.Flow i) name document = option_map section.Flow (named key.Flow name document)
holder _ name document = None

-- which entry has the name of this one
abbrev pub name_note : Section → Members → Option Note
name_note s document = option_map HasName (option_and_then (λ name. holder s name document) (text_of s key.Name document))

-- the switch and the port at an end of a link
abbrev pub end_in : TableKey → TableKey → Members → Option (List ℕ × ℕ)
end_in end port_key link = option_and_then (λ name. option_map (λ port. (name, port)) (number_in port_key 0 31 link)) (text_in end link)

abbrev pub end_of : TableKey → TableKey → ℕ → Members → Option (List ℕ × ℕ)
end_of end port_key link document = option_and_then (end_in end port_key) (table_of (section.Link link) document)

-- the first link that has the port of this end of a link
abbrev pub first_at : TableKey → TableKey → ℕ → Members → Option ℕ
first_at end port_key link document = option_and_then (λ e. first_index (has_end e.0 e.1) key.Link document) (end_of end port_key link document)

-- the place, if it is before this one
abbrev pub earlier : ℕ → Option ℕ → Option ℕ
earlier before None = None
earlier before (Some place) = if nat_lt place before then Some place else None

-- The link that has the port of this one's end `a`, if it is an earlier one; else the first that has the port of its end `b`, which may be
-- this link, by its end `a`.
abbrev pub port_note : ℕ → Members → Option Note
port_note link document =
    first_of (option_map (λ other. HasPort other key.A) (earlier link (first_at key.A key.APort link document)))
    (option_map (λ other. HasPort other key.B) (first_at key.B key.BPort link document))

-- the first and the last address of an entry of a routing table
abbrev pub range_of : ℕ → ℕ → Members → Option (ℕ × ℕ)
range_of switch route document = option_and_then range_in (table_of (section.Route switch route) document)

-- the first entry of a switch's routing table that is for an address from the first to the last
abbrev pub first_for : ℕ → ℕ → ℕ → Members → Option ℕ
first_for switch first last document = option_and_then (first_index (overlaps first last) key.Route) (table_of (section.Switch switch) document)

-- which addresses an entry is for
abbrev pub is_for : ℕ → ℕ → Members → Option Note
is_for switch route document = option_map (λ range. IsFor switch route range.0 range.1) (range_of switch route document)

-- which entry is for an address of this one
abbrev pub route_note : ℕ → ℕ → Members → Option Note
route_note switch route document =
    option_and_then (λ range. option_and_then (λ other. is_for switch other document) (first_for switch range.0 range.1 document))
    (range_of switch route document)

-- the links that are at a node, at most 8 of them, or that there is none
abbrev pub link_notes : List ℕ → List Note
link_notes [] = Unlinked ∷ []
link_notes (link ∷ links) = map LinkHere (take 8 (link ∷ links))

abbrev pub node_notes : ℕ → Members → List Note
node_notes node document = of_name (text_of (section.Node node) key.Name document) document
  where
    of_name : Option (List ℕ) → Members → List Note
    of_name None document = []
    of_name (Some name) document = link_notes (indices_of (is_at name) key.Link document)

abbrev pub topology_notes : TopoFault → Members → List Note
topology_notes (TooMany limit) document = []
topology_notes (PortTaken link) document = option_to_list (port_note link document)
topology_notes (NodeLinks node) document = node_notes node document
topology_notes (PortUnlinked switch) document = []

-- what there is to note of a fault of the text of this document
abbrev pub notes_of : TextFault → Members → List Note
notes_of (Key DuplicateName s k) document = option_to_list (name_note s document)
notes_of (Topology fault) document = topology_notes fault document
notes_of (DuplicateRoute switch route) document = option_to_list (route_note switch route document)
notes_of (ReplyShape flow) document = reply_notes flow document
notes_of _ document = []
