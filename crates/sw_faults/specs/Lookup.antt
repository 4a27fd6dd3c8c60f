-- Tables and values of a document, by where they stand.
use Rattle.std.specs.Prelude.{ℕ, List, Option, Some, None, option_and_then}
use Rattle.toml.specs.Data.{Data, Members, get_member, as_table, at}
use Rattle.sw_text.specs.declared.keys.Key.{Key}
use Rattle.sw_text.specs.declared.keys.Section.{Section}
use Rattle.sw_text.specs.declared.sections.Standing.{Standing}
use Rattle.sw_text.specs.Keys.{key_text}
use Rattle.sw_text.specs.Sections.{standing}

-- the table at a key
abbrev pub inner_of : Key → Members → Option Members
inner_of k ms = option_and_then as_table (get_member (key_text k) ms)

-- the table at a place of the list at a key
abbrev pub entry_of : Key → ℕ → Members → Option Members
entry_of k number ms = option_and_then as_table (option_and_then (at number) (get_member (key_text k) ms))

-- the table that stands so in a table
abbrev pub table_at : Standing → Members → Option Members
table_at place = by_number place.number place.key
  where
    by_number : Option ℕ → Key → Members → Option Members
    by_number None k = inner_of k
    by_number (Some number) k = entry_of k number

-- the table in which a section stands
abbrev pub outer_table : Option Standing → Members → Option Members
outer_table None document = Some document
outer_table (Some place) document = table_at place document

-- the table that stands so in the document; where it stands in none, the document itself
abbrev pub table_by : Option Standing → Members → Option Members
table_by None document = Some document
table_by (Some place) document = option_and_then (table_at place) (outer_table (standing place.within) document)

-- the table of a section, where the document has one
abbrev pub table_of : Section → Members → Option Members
table_of s document = table_by (standing s) document

-- the value at a key of a section, where the document has one
abbrev pub value_of : Section → List ℕ → Members → Option Data
value_of section name document = option_and_then (get_member name) (table_of section document)
