-- Which keys the table of a section may have, by the file's version (this project's choice).
use Rattle.std.specs.Prelude.{List, [], ◌∷◌}
use Rattle.sw_text.specs.declared.keys.Key.{Key}
use Rattle.sw_text.specs.declared.keys.Key.TheVariants as key
use Rattle.sw_text.specs.declared.keys.Section.{Section}
use Rattle.sw_text.specs.declared.keys.Section.TheVariants.{Document, Node, Target, Switch, Route, Link, Flow, Reply, Packet}
use Rattle.sw_text.specs.declared.keys.Version.{Version}
use Rattle.sw_text.specs.declared.keys.Version.TheVariants.{One, Two, Three}

abbrev pub document_keys : List Key
document_keys = key.Version ∷ key.Node ∷ key.Switch ∷ key.Link ∷ key.Flow ∷ []

-- version 3 has `outstanding`
abbrev pub node_keys : Version → List Key
node_keys One = key.Name ∷ key.Target ∷ []
node_keys Two = key.Name ∷ key.Target ∷ []
node_keys Three = key.Name ∷ key.Target ∷ key.Outstanding ∷ []

-- version 2 has `slots`, and so has version 3
abbrev pub target_keys : Version → List Key
target_keys One = key.Logical ∷ key.TargetKey ∷ key.Start ∷ key.Size ∷ []
target_keys Two = key.Logical ∷ key.TargetKey ∷ key.Start ∷ key.Size ∷ key.Slots ∷ []
target_keys Three = key.Logical ∷ key.TargetKey ∷ key.Start ∷ key.Size ∷ key.Slots ∷ []

abbrev pub switch_keys : List Key
switch_keys = key.Name ∷ key.Arbiter ∷ key.Route ∷ []

-- version 2 has `last`, and so has version 3
abbrev pub route_keys : Version → List Key
route_keys One = key.Address ∷ key.Ports ∷ key.Delete ∷ []
route_keys Two = key.Address ∷ key.Last ∷ key.Ports ∷ key.Delete ∷ []
route_keys Three = key.Address ∷ key.Last ∷ key.Ports ∷ key.Delete ∷ []

-- version 2 has `buffer_a` and `buffer_b`, and so has version 3
abbrev pub link_keys : Version → List Key
link_keys One = key.A ∷ key.APort ∷ key.B ∷ key.BPort ∷ key.Buffer ∷ []
link_keys Two = key.A ∷ key.APort ∷ key.B ∷ key.BPort ∷ key.Buffer ∷ key.BufferA ∷ key.BufferB ∷ []
link_keys Three = key.A ∷ key.APort ∷ key.B ∷ key.BPort ∷ key.Buffer ∷ key.BufferA ∷ key.BufferB ∷ []

abbrev pub flow_keys : List Key
flow_keys = key.Name ∷ key.From ∷ key.To ∷ key.Address ∷ key.Left ∷ key.Reply ∷ []

-- version 3 has `outstanding`
abbrev pub reply_keys : Version → List Key
reply_keys One = key.Path ∷ key.Initiator ∷ []
reply_keys Two = key.Path ∷ key.Initiator ∷ []
reply_keys Three = key.Path ∷ key.Initiator ∷ key.Outstanding ∷ []

-- of a load's packet
abbrev pub packet_keys : List Key
packet_keys = key.Flow ∷ key.Cargo ∷ key.End ∷ key.Count ∷ []

-- the keys that the table of a section may have; those of the document are a network's
abbrev pub section_keys : Version → Section → List Key
section_keys version Document = document_keys
section_keys version (Node i) = node_keys version
section_keys version (Target i) = target_keys version
section_keys version (Switch i) = switch_keys
section_keys version (Route i j) = route_keys version
section_keys version (Link i) = link_keys version
section_keys version (Flow i) = flow_keys
section_keys version (Reply i) = reply_keys version
section_keys version (Packet i) = packet_keys
