-- What may stand at a key of a table, in words. (The format of the file is this project's choice.)
use Rattle.std.specs.Prelude.{◌≡◌, ◌≤◌, ◌⊎◌, ℕ, pos, Bool, List, [], Option, Some, None}
use Rattle.std.specs.List.{AllZip}
use Rattle.toml.specs.Data.{Data, Members, Items, get_member, as_str, as_integer, as_bool, as_array, as_table}
use Rattle.sw_text.specs.declared.keys.Key.{Key}
use Rattle.sw_text.specs.Keys.{key_text}
use Rattle.sw_text.specs.Table.{item_list}

-- the value is this text
abbrev pub IsText : Data → List ℕ → Type 0
IsText value text = as_str value ≡ Some text

-- the value is true, or false
abbrev pub IsFlag : Data → Bool → Type 0
IsFlag value flag = as_bool value ≡ Some flag

-- the value is the whole number n, from low to high
pub record IsNumber (low high : ℕ) (value : Data) (n : ℕ) : Type 0 where
  pub whole : as_integer value ≡ Some (pos n)
  pub least : low ≤ n
  pub most : n ≤ high

-- the value is a list, of which each item is what Is says of it
pub record IsListOf {A : Type 0} (Is : Data → A → Type 0) (value : Data) (entries : List A) : Type 0 where
  pub items : Items
  pub array : as_array value ≡ Some items
  pub each : AllZip Is (item_list items) entries

-- the value is a table, which is what Is says of it
pub record IsTableOf {A : Type 0} (Is : Members → A → Type 0) (value : Data) (entry : A) : Type 0 where
  pub members : Members
  pub table : as_table value ≡ Some members
  pub is : Is members entry

-- nothing stands at the key
abbrev pub Lacks : Key → Members → Type 0
Lacks key ms = get_member (key_text key) ms ≡ None

-- at the key stands what Is says
pub record Has {A : Type 0} (Is : Data → A → Type 0) (key : Key) (ms : Members) (a : A) : Type 0 where
  pub value : Data
  pub stands : get_member (key_text key) ms ≡ Some value
  pub is : Is value a

-- so it is, or nothing stands there, and then the default counts
abbrev pub HasOr : {A : Type 0} → (Data → A → Type 0) → A → Key → Members → A → Type 0
HasOr Is default key ms a = Has Is key ms a ⊎ (Lacks key ms × (a ≡ default))

-- so it is, or nothing stands there, and then there is none
abbrev pub HasIfAny : {A : Type 0} → (Data → A → Type 0) → Key → Members → Option A → Type 0
HasIfAny Is key ms None = Lacks key ms
HasIfAny Is key ms (Some a) = Has Is key ms a

-- at the key stands a list of tables, one for each entry; where nothing stands there are no entries
abbrev pub HasTables : {A : Type 0} → (Members → A → Type 0) → Key → Members → List A → Type 0
HasTables Is key ms entries = HasOr (IsListOf (IsTableOf Is)) [] key ms entries
