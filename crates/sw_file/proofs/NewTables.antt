-- The list of tables at a key, where it was changed and where it was not.
use Rattle.std.proofs.Common.{◌≡◌, List, [], ◌∷◌, map, Option, Some, None, Ok, refl, ap}
use Rattle.toml.specs.Data.{Data, table, Members, get_member, as_table}
use Rattle.toml.specs.View.{items_of}
use Rattle.sw_text.specs.declared.keys.Key.{Key}
use Rattle.sw_text.specs.declared.keys.Section.{Section}
use Rattle.sw_text.specs.declared.fault.KeyFault.TheVariants.{WrongType}
use Rattle.sw_text.specs.declared.fault.TextFault.TheVariants as fault
use Rattle.sw_text.specs.Keys.{key_text}
use Rattle.sw_text.specs.Gives.{◌>>=◌, each}
use Rattle.sw_text.specs.Table.{item_list, items_value, table_value, tables_value, tables_or_none}
use Rattle.sw_file.specs.Tree.{array_of, with_key, with_tables}
use Rattle.sw_file.proofs.Values.{there as ok_or_is}
use Rattle.sw_file.proofs.PutMembers.{get_same}
use Rattle.sw_file.proofs.RowEntries.{items_value-anywhere}
use Rattle.sw_text.proofs.Results.{bind_ok}

listed : (ts : List Members) → item_list (items_of (map table ts)) ≡ map table ts
listed [] = refl
listed (t ∷ ts) = ap (λ l. table t ∷ l) (listed ts)

each_table : (s : Section) (key : Key) (ts : List Members) → each (table_value s key) (map table ts) ≡ Ok ts
each_table s key [] = refl
each_table s key (t ∷ ts) = rw (each_table s key ts) refl

tables_back : (s : Section) (key : Key) (ts : List Members) → tables_value s key (array_of ts) ≡ Ok ts
tables_back s key ts = rw (listed ts) (each_table s key ts)

table_value-anywhere : (s t : Section) (key : Key) (d : Data) (ms : Members) → table_value s key d ≡ Ok ms → table_value t key d ≡ Ok ms
table_value-anywhere s t key d ms well = rw (ok_or_is (as_table d) (fault.Key WrongType s key) ms well) refl

each-anywhere : (s t : Section) (key : Key) (ds : List Data) (ts : List Members) → each (table_value s key) ds ≡ Ok ts → each (table_value t key) ds ≡ Ok ts
each-anywhere s t key [] ts well = well
each-anywhere s t key (d ∷ ds) ts well =
    let a = bind_ok (table_value s key d) (λ x. each (table_value s key) ds >>= λ rest. Ok (x ∷ rest)) ts well in
    let b = bind_ok (each (table_value s key) ds) (λ rest. Ok (a.0 ∷ rest)) ts a.2 in
    rw (table_value-anywhere s t key d a.0 a.1, each-anywhere s t key ds b.0 b.1) b.2

tables_at : (s t : Section) (key : Key) (ms : Members) (ts : List Members) (o : Option Data) → get_member (key_text key) ms ≡ o → tables_or_none s key ms ≡ Ok ts → tables_or_none t key ms ≡ Ok ts
tables_at s t key ms ts None is well = rw is (rw is at well)
tables_at s t key ms ts (Some d) is well =
    let well' : tables_value s key d ≡ Ok ts = rw is at well in
    let a = bind_ok (items_value s key d) (each (table_value s key)) ts well' in
    rw (is, items_value-anywhere s t key d a.0 a.1) (each-anywhere s t key a.0 ts a.2)

-- the tables of a list do not depend on where it stands
pub tables-anywhere : (s t : Section) (key : Key) (ms : Members) (ts : List Members) → tables_or_none s key ms ≡ Ok ts → tables_or_none t key ms ≡ Ok ts
tables-anywhere s t key ms ts well = tables_at s t key ms ts (get_member (key_text key) ms) refl well

pub tables_same : (s : Section) (key : Key) (ms ns : Members) → get_member (key_text key) ms ≡ get_member (key_text key) ns → tables_or_none s key ms ≡ tables_or_none s key ns
tables_same s key ms ns same = rw same refl

-- with other tables as its list at the key, a table is itself where it has no such list
pub without : (key : Key) (ts : List Members) (ms : Members) → get_member (key_text key) ms ≡ None → with_tables key ts ms ≡ ms
without key ts ms none = rw none refl

pub within : (key : Key) (ts : List Members) (ms : Members) (d : Data) → get_member (key_text key) ms ≡ Some d → with_tables key ts ms ≡ with_key key (array_of ts) ms
within key ts ms d there = rw there refl

-- and the list is these tables where it has one
pub new_tables : (s : Section) (key : Key) (ts : List Members) (ms : Members) → tables_or_none s key (with_key key (array_of ts) ms) ≡ Ok ts
new_tables s key ts ms = rw (get_same (key_text key) (array_of ts) ms) (tables_back s key ts)
