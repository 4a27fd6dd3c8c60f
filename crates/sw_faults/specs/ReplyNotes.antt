-- Why the replies of a flow can't come back (this project's choice; ECSS-E-ST-50-52C, the reply address field of a command).
use Rattle.std.specs.Prelude.{ℕ, Bool, false, List, [], ◌∷◌, ◌++◌, ◌==◌, ◌&&◌, Option, Some, None, if◌then◌else◌, length, nat_le, nat_lt, option_and_then}
use Rattle.toml.specs.Data.{Members}
use Rattle.sw_text.specs.declared.keys.Key.{Key}
use Rattle.sw_text.specs.declared.keys.Key.TheVariants as key
use Rattle.sw_text.specs.declared.keys.Section.TheVariants as section
use Rattle.sw_faults.specs.Lookup.{table_of}
use Rattle.sw_faults.specs.declared.note.Note.{Note}
use Rattle.sw_faults.specs.declared.note.Note.TheVariants.{LongPath, LeadingZero, NoInitiator, NoTarget}
use Rattle.sw_faults.specs.Entries.{bytes_in, number_in, text_of}
use Rattle.sw_faults.specs.Finding.{first_index}
use Rattle.sw_faults.specs.Passing.{is_named}

-- the first entry of a list of the document that has this name
abbrev pub named : Key → List ℕ → Members → Option ℕ
named list name document = first_index (is_named name) list document

-- the path begins with 0
abbrev pub is_zero_led : List ℕ → Bool
is_zero_led [] = false
is_zero_led (byte ∷ path) = byte == 0

-- the path is too long, or begins with 0
abbrev pub path_notes : List ℕ → List Note
path_notes path =
    (if nat_lt 12 (length path) then LongPath (length path) ∷ [] else []) ++ (if is_zero_led path then LeadingZero ∷ [] else [])

-- the initiator is no logical address
abbrev pub initiator_notes : Option ℕ → List Note
initiator_notes None = []
initiator_notes (Some initiator) = if nat_le 32 initiator && nat_le initiator 254 then [] else NoInitiator initiator ∷ []

-- the node is no target
abbrev pub node_note : ℕ → Members → List Note
node_note node document = unless_table (table_of (section.Target node) document) node
  where
    unless_table : Option Members → ℕ → List Note
    unless_table (Some table) node = []
    unless_table None node = NoTarget node ∷ []

-- the node that a flow goes to
abbrev pub end_node : ℕ → Members → Option ℕ
end_node flow document = option_and_then (λ name. named key.Node name document) (text_of (section.Flow flow) key.To document)

-- that node is no target
abbrev pub target_notes : ℕ → Members → List Note
target_notes flow document = of_node (end_node flow document) document
  where
    of_node : Option ℕ → Members → List Note
    of_node None document = []
    of_node (Some node) document = node_note node document

-- what is wrong in the table of a flow's replies
abbrev pub shape_notes : Members → List Note
shape_notes reply = path_notes (bytes_in key.Path reply) ++ initiator_notes (number_in key.Initiator 0 255 reply)

abbrev pub table_notes : Option Members → List Note
table_notes None = []
table_notes (Some reply) = shape_notes reply

-- each condition that failed
abbrev pub reply_notes : ℕ → Members → List Note
reply_notes flow document = table_notes (table_of (section.Reply flow) document) ++ target_notes flow document
