-- How a fault is printed (this project's choice).
use Rattle.std.specs.Prelude.{ℕ, List, [], ◌∷◌, codes}
use Rattle.std.specs.Fmt.{decimal}
use Rattle.sw_topo.specs.declared.fault.Limit.{Limit}
use Rattle.sw_topo.specs.declared.fault.Limit.TheVariants.{Nodes, Switches, Links}
use Rattle.sw_topo.specs.declared.fault.TopoFault.{TopoFault}
use Rattle.sw_topo.specs.declared.fault.TopoFault.TheVariants.{TooMany, PortTaken, NodeLinks, PortUnlinked}
use Rattle.sw_text.specs.declared.keys.Section.{Section}
use Rattle.sw_text.specs.declared.fault.KeyFault.{KeyFault}
use Rattle.sw_text.specs.declared.fault.KeyFault.TheVariants.{MissingKey, WrongType, OutOfRange, DuplicateName, UnknownName}
use Rattle.sw_text.specs.declared.fault.TextFault.{TextFault}
use Rattle.sw_text.specs.declared.fault.TextFault.TheVariants.{Syntax, UnknownKey, Key, Topology, DuplicateRoute, ReplyShape, NotInFlow}
use Rattle.sw_text.specs.Keys.{key_text}
use Rattle.sw_text.specs.Lines.{spaced}
use Rattle.sw_text.specs.Sections.{section_text}

-- where a key stands
abbrev pub where_text : Section → List ℕ → List ℕ
where_text section key = spaced (section_text section ∷ key ∷ [])

abbrev pub key_fault_text : KeyFault → List ℕ
key_fault_text MissingKey = codes "F3 MissingKey"
key_fault_text WrongType = codes "F4 WrongType"
key_fault_text OutOfRange = codes "F5 OutOfRange"
key_fault_text DuplicateName = codes "F6 DuplicateName"
key_fault_text UnknownName = codes "F7 UnknownName"

-- the list that is too long, by its key
abbrev pub limit_text : Limit → List ℕ
limit_text Nodes = codes "node"
limit_text Switches = codes "switch"
limit_text Links = codes "link"

abbrev pub topology_fault_text : TopoFault → List ℕ
topology_fault_text (TooMany limit) = spaced (codes "E4 TooMany" ∷ limit_text limit ∷ [])
topology_fault_text (PortTaken link) = spaced (codes "E1 PortTaken link" ∷ decimal link ∷ [])
topology_fault_text (NodeLinks node) = spaced (codes "E2 NodeLinks node" ∷ decimal node ∷ [])
topology_fault_text (PortUnlinked switch) = spaced (codes "E3 PortUnlinked switch" ∷ decimal switch ∷ [])

-- the fault of a text, with its code and where it stands
abbrev pub fault_text : TextFault → List ℕ
fault_text Syntax = codes "fault F1 Syntax"
fault_text (UnknownKey section key) = spaced (codes "fault F2 UnknownKey" ∷ where_text section key ∷ [])
fault_text (Key fault section key) = spaced (codes "fault" ∷ key_fault_text fault ∷ where_text section (key_text key) ∷ [])
fault_text (Topology fault) = spaced (codes "fault F8" ∷ topology_fault_text fault ∷ [])
fault_text (DuplicateRoute switch route) = spaced (codes "fault F9 DuplicateRoute switch" ∷ decimal switch ∷ codes "route" ∷ decimal route ∷ [])
fault_text (ReplyShape flow) = spaced (codes "fault F10 ReplyShape flow" ∷ decimal flow ∷ [])
fault_text (NotInFlow packet) = spaced (codes "fault F11 NotInFlow packet" ∷ decimal packet ∷ [])
