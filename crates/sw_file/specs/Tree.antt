-- The tree of a version 1 file as one of version 2.
use Rattle.std.specs.Prelude.{ℕ, ◌==◌, pos, List, map, is_some, Result, Ok, if◌then◌else◌}
use Rattle.std.specs.Ordering.{nat_cmp, match_ordering}
use Rattle.std.specs.Cmp.Lexicographic.{slice_cmp}
use Rattle.toml.specs.Data.{Data, integer, array, table, Members, no_members, member, get_member}
use Rattle.toml.specs.View.{items_of}
use Rattle.sw_text.specs.declared.keys.Key.{Key}
use Rattle.sw_text.specs.declared.keys.Key.TheVariants.{Version as VersionKey, Switch, Route, Address, Last, Ports, Delete}
use Rattle.sw_text.specs.declared.keys.Section.TheVariants.{Document}
use Rattle.sw_text.specs.declared.fault.TextFault.{TextFault}
use Rattle.sw_text.specs.Keys.{key_text}
use Rattle.sw_text.specs.Gives.{◌>>=◌, each}
use Rattle.sw_text.specs.Table.{number_at, numbers_at, tables_or_none, flag_or_false}
use Rattle.sw_file.specs.Rows.{Entry, Row, rows}

-- the table with the value at the name: in place of the one there, or as a new member at its place in the order of names
abbrev pub put : List ℕ → Data → Members → Members
put name d no_members = member name d no_members
put name d (member l e ms) = match_ordering (slice_cmp nat_cmp name l) (member name d (member l e ms)) (member l d ms) (member l e (put name d ms))

-- the table with the value at the key
abbrev pub with_key : Key → Data → Members → Members
with_key key d ms = put (key_text key) d ms

-- the tables as one value
abbrev pub array_of : List Members → Data
array_of tables = array (items_of (map table tables))

-- the table with these tables as its list at the key, if it has one there
abbrev pub with_tables : Key → List Members → Members → Members
with_tables key tables ms = if is_some (get_member (key_text key) ms) then with_key key (array_of tables) ms else ms

-- An entry of a routing table. All that is read here was read before as a network's, so no reader meets a fault, and it doesn't
-- matter where the tables stand.
unfoldable pub entry_of : Members → Result Entry TextFault
entry_of ms = do
  address ← number_at Document Address 32 254 ms
  ports ← numbers_at Document Ports 31 ms
  delete ← flag_or_false Document Delete ms
  Ok (record { table = ms; address = address; ports = ports; delete = delete })

-- the entry for a row: the first one's table, with the key `last` where the row has more
abbrev pub row_table : Row → Members
row_table r = if r.first.address == r.last then r.first.table else with_key Last (integer (pos r.last)) r.first.table

-- a switch's table with an entry for each row of its routing table
unfoldable pub merged_switch : Members → Result Members TextFault
merged_switch ms = do
  tables ← tables_or_none Document Route ms
  entries ← each entry_of tables
  Ok (with_tables Route (map row_table (rows entries)) ms)

-- the tables of the document's switches, made so
unfoldable pub new_switches : Members → Result (List Members) TextFault
new_switches ms = do
  tables ← tables_or_none Document Switch ms
  each merged_switch tables

-- tables that were read, as values
abbrev pub as_values : Result (List Members) TextFault → Result (List Data) TextFault
as_values read = read >>= λ tables. Ok (map table tables)

-- the document's table with version 2 and these switches
unfoldable pub migrated : Members → Result Members TextFault
migrated ms = do
  switches ← new_switches ms
  Ok (with_tables Switch switches (with_key VersionKey (integer (pos 2)) ms))
