-- The text of `rmap` (this project's choice).
use Rattle.std.specs.Prelude.{ℕ, List, [], ◌∷◌, codes}
use Rattle.hex.specs.Hex.{encode_upper}
use Rattle.toml.specs.Data.{Members, array, item, member, no_items, no_members, string, table}
use Rattle.sw_output.specs.Lines.{line}
use Rattle.sw_app_rmap.specs.declared.fault.RmapFault.{RmapFault}
use Rattle.sw_app_rmap.specs.declared.fault.RmapFault.TheVariants.{UnknownFlow, BadAddress, BadLength, BadData, BadTransaction, NoTarget, NotAnswered, NoReply, OutsideWindow, WrongLeft, TooLong}

-- the entry of a load: the flow's name, and the cargo as pairs of hexadecimal digits
abbrev pub entry_table : List ℕ → List ℕ → Members
entry_table name cargo = member (codes "cargo") (string (encode_upper cargo)) (member (codes "flow") (string name) no_members)

-- a load of that entry alone
abbrev pub load_table : List ℕ → List ℕ → Members
load_table name cargo = member (codes "packet") (array (item (table (entry_table name cargo)) no_items)) no_members

-- why there is no such packet
abbrev pub fault_words : RmapFault → List ℕ
fault_words UnknownFlow = codes "F7 UnknownName argument"
fault_words BadAddress = codes "R1 BadAddress"
fault_words BadLength = codes "R2 BadLength"
fault_words BadData = codes "R3 BadData"
fault_words BadTransaction = codes "R4 BadTransaction"
fault_words NoTarget = codes "R5 NoTarget"
fault_words NotAnswered = codes "R10 NotAnswered"
fault_words NoReply = codes "R6 NoReply"
fault_words OutsideWindow = codes "R7 OutsideWindow"
fault_words WrongLeft = codes "R8 WrongLeft"
fault_words TooLong = codes "R9 TooLong"

abbrev pub fault_line : RmapFault → List ℕ
fault_line fault = line (codes "fault" ∷ fault_words fault ∷ [])
