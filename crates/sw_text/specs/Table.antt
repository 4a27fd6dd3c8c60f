-- What stands in one table of a TOML text. A key is read in steps: that it is there, then the type of its value, then the value's range;
-- in a list the type and then the range of each item in turn.
use Rattle.std.specs.Prelude.{false, ℕ, ℤ, pos, negsuc, Bool, ◌&&◌, nat_le, List, [], ◌∷◌, Option, Some, None, Result, Ok, Err, if◌then◌else◌}
use Rattle.std.specs.List.{list_any}
use Rattle.std.specs.Str.{bytes_eq}
use Rattle.std.specs.Ordering.{nat_cmp, is_lt}
use Rattle.std.specs.Cmp.Lexicographic.{slice_cmp}
use Rattle.toml.specs.Data.{Data, Members, no_members, member, get_member, as_str, as_integer, as_bool, as_array, as_table, Items, no_items, item}
use Rattle.sw_text.specs.declared.keys.Key.{Key}
use Rattle.sw_text.specs.declared.keys.Section.{Section}
use Rattle.sw_text.specs.declared.fault.KeyFault.TheVariants.{MissingKey, WrongType, OutOfRange}
use Rattle.sw_text.specs.declared.fault.TextFault.{TextFault}
use Rattle.sw_text.specs.declared.fault.TextFault.TheVariants as fault
use Rattle.sw_text.specs.Keys.{key_text}
use Rattle.sw_text.specs.Gives.{◌>>=◌, ok_or, each}

-- one of the keys is written so
abbrev pub is_known : List Key → List ℕ → Bool
is_known keys name = list_any (λ k. bytes_eq (key_text k) name) keys

-- the names of a table's members
abbrev pub member_names : Members → List (List ℕ)
member_names no_members = []
member_names (member k d ms) = k ∷ member_names ms

-- the lesser, by bytes, of a name and the least of others
abbrev pub lesser : List ℕ → Option (List ℕ) → List ℕ
lesser k None = k
lesser k (Some l) = if is_lt (slice_cmp nat_cmp l k) then l else k

-- the least of the names, by bytes, that is none of the keys
abbrev pub least_unknown : List Key → List (List ℕ) → Option (List ℕ)
least_unknown keys [] = None
least_unknown keys (k ∷ ks) = if is_known keys k then least_unknown keys ks else Some (lesser k (least_unknown keys ks))

-- the table has none but these keys
abbrev pub only_known : Section → List Key → Members → Result (Unit {0}) TextFault
only_known s keys ms = no_name s (least_unknown keys (member_names ms))
  where
    no_name : Section → Option (List ℕ) → Result (Unit {0}) TextFault
    no_name s None = Ok tt
    no_name s (Some k) = Err (fault.UnknownKey s k)

-- nothing stands at a key that is known elsewhere in the table, but not here
abbrev pub absent : Section → Key → Members → Result (Unit {0}) TextFault
absent s key ms = nothing s key (get_member (key_text key) ms)
  where
    nothing : Section → Key → Option Data → Result (Unit {0}) TextFault
    nothing s k None = Ok tt
    nothing s k (Some d) = Err (fault.UnknownKey s (key_text k))

-- what stands at a key that has to be there
abbrev pub required : Section → Key → Members → Result Data TextFault
required s key ms = ok_or (get_member (key_text key) ms) (fault.Key MissingKey s key)

abbrev pub text_value : Section → Key → Data → Result (List ℕ) TextFault
text_value s key d = ok_or (as_str d) (fault.Key WrongType s key)

-- the integer, if it is a number from low to high
abbrev pub in_range : ℕ → ℕ → ℤ → Option ℕ
in_range low high (pos n) = if nat_le low n && nat_le n high then Some n else None
in_range low high (negsuc n) = None

abbrev pub number_value : Section → Key → ℕ → ℕ → Data → Result ℕ TextFault
number_value s key low high d = do
  z ← ok_or (as_integer d) (fault.Key WrongType s key)
  ok_or (in_range low high z) (fault.Key OutOfRange s key)

-- the items of an array as a list
abbrev pub item_list : Items → List Data
item_list no_items = []
item_list (item d ds) = d ∷ item_list ds

abbrev pub items_value : Section → Key → Data → Result (List Data) TextFault
items_value s key d = do
  ds ← ok_or (as_array d) (fault.Key WrongType s key)
  Ok (item_list ds)

abbrev pub table_value : Section → Key → Data → Result Members TextFault
table_value s key d = ok_or (as_table d) (fault.Key WrongType s key)

-- the numbers of a list, each from 0 to high
abbrev pub numbers_value : Section → Key → ℕ → Data → Result (List ℕ) TextFault
numbers_value s key high d = do
  ds ← items_value s key d
  each (number_value s key 0 high) ds

-- the tables of a list
abbrev pub tables_value : Section → Key → Data → Result (List Members) TextFault
tables_value s key d = do
  ds ← items_value s key d
  each (table_value s key) ds

-- the text at a key that has to be there
abbrev pub text_at : Section → Key → Members → Result (List ℕ) TextFault
text_at s key ms = do
  d ← required s key ms
  text_value s key d

-- the text at a key, if anything stands there
abbrev pub text_or_none : Section → Key → Members → Result (Option (List ℕ)) TextFault
text_or_none s key ms = text_of s key (get_member (key_text key) ms)
  where
    text_of : Section → Key → Option Data → Result (Option (List ℕ)) TextFault
    text_of s k None = Ok None
    text_of s k (Some d) = do
      t ← text_value s k d
      Ok (Some t)

-- the number from low to high at a key that has to be there
abbrev pub number_at : Section → Key → ℕ → ℕ → Members → Result ℕ TextFault
number_at s key low high ms = do
  d ← required s key ms
  number_value s key low high d

-- the number from low to high at a key, or the default
abbrev pub number_or : Section → Key → ℕ → ℕ → ℕ → Members → Result ℕ TextFault
number_or s key low high default ms = number_of s key low high default (get_member (key_text key) ms)
  where
    number_of : Section → Key → ℕ → ℕ → ℕ → Option Data → Result ℕ TextFault
    number_of s k l h n None = Ok n
    number_of s k l h n (Some d) = number_value s k l h d

-- the number from low to high at a key, if anything stands there
abbrev pub number_or_none : Section → Key → ℕ → ℕ → Members → Result (Option ℕ) TextFault
number_or_none s key low high ms = number_of s key low high (get_member (key_text key) ms)
  where
    number_of : Section → Key → ℕ → ℕ → Option Data → Result (Option ℕ) TextFault
    number_of s k l h None = Ok None
    number_of s k l h (Some d) = do
      n ← number_value s k l h d
      Ok (Some n)

-- the numbers from 0 to high of a list that has to be there
abbrev pub numbers_at : Section → Key → ℕ → Members → Result (List ℕ) TextFault
numbers_at s key high ms = do
  d ← required s key ms
  numbers_value s key high d

-- the numbers from 0 to high of a list, none where there is no list
abbrev pub numbers_or_none : Section → Key → ℕ → Members → Result (List ℕ) TextFault
numbers_or_none s key high ms = numbers_of s key high (get_member (key_text key) ms)
  where
    numbers_of : Section → Key → ℕ → Option Data → Result (List ℕ) TextFault
    numbers_of s k h None = Ok []
    numbers_of s k h (Some d) = numbers_value s k h d

-- the tables of a list, none where there is no list
abbrev pub tables_or_none : Section → Key → Members → Result (List Members) TextFault
tables_or_none s key ms = tables_of s key (get_member (key_text key) ms)
  where
    tables_of : Section → Key → Option Data → Result (List Members) TextFault
    tables_of s k None = Ok []
    tables_of s k (Some d) = tables_value s k d

-- the table at a key, if anything stands there
abbrev pub table_or_none : Section → Key → Members → Result (Option Members) TextFault
table_or_none s key ms = table_of s key (get_member (key_text key) ms)
  where
    table_of : Section → Key → Option Data → Result (Option Members) TextFault
    table_of s k None = Ok None
    table_of s k (Some d) = do
      t ← table_value s k d
      Ok (Some t)

-- true or false at a key, and false where nothing stands there
abbrev pub flag_or_false : Section → Key → Members → Result Bool TextFault
flag_or_false s key ms = flag_of s key (get_member (key_text key) ms)
  where
    flag_of : Section → Key → Option Data → Result Bool TextFault
    flag_of s k None = Ok false
    flag_of s k (Some d) = ok_or (as_bool d) (fault.Key WrongType s k)
