-- The objects that stand for texts that are no network (this project's choice).
use Rattle.std.specs.Prelude.{◌≡◌, ℕ, List, [], ◌∷◌, codes, Option, Some, None, option_map}
use Rattle.std.specs.Fmt.{decimal}
use Rattle.serde_json.specs.Data.{Data, object, string, member, no_members}
use Rattle.sw_text.specs.FaultTexts.{fault_text, limit_text, where_text}
use Rattle.sw_faults.specs.FaultPlaces.{IsFaultPlace}
use Rattle.sw_json.specs.Simple.{count_or_null, text_or_null}
use Rattle.sw_output.specs.Lines.{spaced}
use Rattle.sw_faults.specs.LineColumn.{column_of, line_of}
use Rattle.sw_text.specs.declared.fault.KeyFault.{KeyFault}
use Rattle.sw_text.specs.declared.fault.KeyFault.TheVariants.{MissingKey, WrongType, OutOfRange, DuplicateName, UnknownName}
use Rattle.sw_text.specs.declared.fault.TextFault.{TextFault}
use Rattle.sw_text.specs.declared.fault.TextFault.TheVariants.{Syntax, UnknownKey, Key, Topology, DuplicateRoute, ReplyShape, NotInFlow}
use Rattle.sw_text.specs.Keys.{key_text}
use Rattle.sw_topo.specs.declared.fault.TopoFault.{TopoFault}
use Rattle.sw_topo.specs.declared.fault.TopoFault.TheVariants.{TooMany, PortTaken, NodeLinks, PortUnlinked}

abbrev pub key_fault_code : KeyFault → List ℕ
key_fault_code MissingKey = codes "F3"
key_fault_code WrongType = codes "F4"
key_fault_code OutOfRange = codes "F5"
key_fault_code DuplicateName = codes "F6"
key_fault_code UnknownName = codes "F7"

abbrev pub topology_code : TopoFault → List ℕ
topology_code (PortTaken link) = codes "F8 E1"
topology_code (NodeLinks node) = codes "F8 E2"
topology_code (PortUnlinked switch) = codes "F8 E3"
topology_code (TooMany limit) = codes "F8 E4"

-- the fault's code, as it is printed
abbrev pub fault_code : TextFault → List ℕ
fault_code Syntax = codes "F1"
fault_code (UnknownKey section key) = codes "F2"
fault_code (Key fault section key) = key_fault_code fault
fault_code (Topology fault) = topology_code fault
fault_code (DuplicateRoute switch route) = codes "F9"
fault_code (ReplyShape flow) = codes "F10"
fault_code (NotInFlow packet) = codes "F11"

abbrev pub topology_where : TopoFault → List ℕ
topology_where (TooMany limit) = limit_text limit
topology_where (PortTaken link) = spaced (codes "link" ∷ decimal link ∷ [])
topology_where (NodeLinks node) = spaced (codes "node" ∷ decimal node ∷ [])
topology_where (PortUnlinked switch) = spaced (codes "switch" ∷ decimal switch ∷ [])

-- what has the fault, as it is printed behind the fault's name; of a text that is no TOML nothing
abbrev pub fault_where : TextFault → Option (List ℕ)
fault_where Syntax = None
fault_where (UnknownKey section key) = Some (where_text section key)
fault_where (Key fault section key) = Some (where_text section (key_text key))
fault_where (Topology fault) = Some (topology_where fault)
fault_where (DuplicateRoute switch route) = Some (spaced (codes "switch" ∷ decimal switch ∷ codes "route" ∷ decimal route ∷ []))
fault_where (ReplyShape flow) = Some (spaced (codes "flow" ∷ decimal flow ∷ []))
fault_where (NotInFlow packet) = Some (spaced (codes "packet" ∷ decimal packet ∷ []))

-- a fault: its code, its line and column (from 1; a column counts bytes), its printed line, and what has it
abbrev pub told_fault : List ℕ → Option ℕ → Option ℕ → List ℕ → Option (List ℕ) → Data
told_fault code line column text place =
    object (member (codes "code") (string code)
    (member (codes "column") (count_or_null column)
    (member (codes "kind") (string (codes "fault"))
    (member (codes "line") (count_or_null line)
    (member (codes "text") (string text)
    (member (codes "where") (text_or_null place) no_members))))))

-- a fault of a text, told of a place of it, or of none
abbrev pub fault_value : List ℕ → TextFault → Option ℕ → Data
fault_value text fault place =
    told_fault (fault_code fault) (option_map (line_of text) place) (option_map (column_of text) place) (fault_text fault) (fault_where fault)

-- the same, where the place is one that the fault has
abbrev pub IsFaultValue : List ℕ → TextFault → Data → Type 0
IsFaultValue text fault value = (place : Option ℕ) × IsFaultPlace text fault place × (value ≡ fault_value text fault place)

-- a text that is longer than a text may be
abbrev pub long_value : Data
long_value = told_fault (codes "A1") None None (codes "fault A1 TooLong") None

-- a schedule's first wrong line, by its number
abbrev pub schedule_fault_value : ℕ → Data
schedule_fault_value number =
    told_fault (codes "S1") (Some number) None (spaced (codes "fault S1 BadLine" ∷ decimal number ∷ [])) None

-- a word that names no flow of the network
abbrev pub unknown_flow_value : Data
unknown_flow_value = told_fault (codes "F7") None None (codes "fault F7 UnknownName argument") (Some (codes "argument"))
