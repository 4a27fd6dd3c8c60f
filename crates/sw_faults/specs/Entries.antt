-- What the entries of a document say, as far as they say it (this project's choice).
use Rattle.std.specs.Prelude.{ℕ, List, Option, Some, None, [], Result, Ok, Err, option_and_then, option_map}
use Rattle.toml.specs.Data.{Data, Members, as_integer, as_str, get_member}
use Rattle.sw_text.specs.Gives.{FileFault}
use Rattle.sw_text.specs.declared.fault.OrMemory.TheVariants.{Fault, Memory}
use Rattle.sw_text.specs.declared.fault.TextFault.{TextFault}
use Rattle.sw_text.specs.declared.keys.Key.{Key}
use Rattle.sw_text.specs.declared.keys.Key.TheVariants.{Address, Last}
use Rattle.sw_text.specs.declared.keys.Section.{Section}
use Rattle.sw_text.specs.declared.keys.Section.TheVariants.{Document}
use Rattle.sw_text.specs.Keys.{key_text}
use Rattle.sw_text.specs.Table.{in_range, numbers_or_none, tables_or_none}
use Rattle.sw_faults.specs.Lookup.{value_of}

-- the text at a key of a table of the document
abbrev pub text_of : Section → Key → Members → Option (List ℕ)
text_of section key document = option_and_then as_str (value_of section (key_text key) document)

-- the list that was read, or an empty one
abbrev pub as_read : {A : Type 0} → Result (List A) TextFault → List A
as_read (Ok items) = items
as_read (Err fault) = []

-- a text has this fault: there was memory to read it
abbrev pub IsOfText : FileFault → Type 0
IsOfText (Fault fault) = Unit {0}
IsOfText Memory = ⊥

-- the tables of a list of a table
abbrev pub tables_of : Key → Members → List Members
tables_of list table = as_read (tables_or_none Document list table)

-- the bytes of a list of numbers of a table
abbrev pub bytes_in : Key → Members → List ℕ
bytes_in list table = as_read (numbers_or_none Document list 255 table)

-- the text at a key of a table
abbrev pub text_in : Key → Members → Option (List ℕ)
text_in key table = option_and_then as_str (get_member (key_text key) table)

-- the number that a value is, if it is one from low to high
abbrev pub number_of : ℕ → ℕ → Data → Option ℕ
number_of low high value = option_and_then (in_range low high) (as_integer value)

-- the number from low to high at a key of a table
abbrev pub number_in : Key → ℕ → ℕ → Members → Option ℕ
number_in key low high table = option_and_then (number_of low high) (get_member (key_text key) table)

-- the last address of an entry of a routing table, which is its first where nothing else is said
abbrev pub last_in : ℕ → Members → Option ℕ
last_in first route = said first (get_member (key_text Last) route)
  where
    said : ℕ → Option Data → Option ℕ
    said first None = Some first
    said first (Some value) = number_of first 254 value

-- the first and the last address of an entry of a routing table
abbrev pub range_in : Members → Option (ℕ × ℕ)
range_in route = option_and_then (λ first. option_map (λ last. (first, last)) (last_in first route)) (number_in Address 32 254 route)
