-- Names that entries take, and names of what was declared before (this project's choice).
use Rattle.std.specs.Prelude.{ℕ, List, position, Result, Ok, Err, if◌then◌else◌}
use Rattle.std.specs.List.{list_any}
use Rattle.std.specs.Str.{bytes_eq}
use Rattle.toml.specs.Data.{Members}
use Rattle.sw_text.specs.declared.keys.Key.{Key}
use Rattle.sw_text.specs.declared.keys.Key.TheVariants.{Name}
use Rattle.sw_text.specs.declared.keys.Section.{Section}
use Rattle.sw_text.specs.declared.fault.KeyFault.TheVariants.{DuplicateName, UnknownName}
use Rattle.sw_text.specs.declared.fault.TextFault.{TextFault}
use Rattle.sw_text.specs.declared.fault.TextFault.TheVariants as fault
use Rattle.sw_text.specs.Gives.{◌>>=◌, ok_or}
use Rattle.sw_text.specs.Table.{text_at}
use Rattle.sw_text.specs.Names.{name_at}

-- the name of an entry, which has to be none of those that are taken
unfoldable pub new_name : Section → List (List ℕ) → Members → Result (List ℕ) TextFault
new_name s taken ms = do
  name ← name_at s ms
  if list_any (bytes_eq name) taken then Err (fault.Key DuplicateName s Name) else Ok name

-- the place, in a list of names, of the name at a key
unfoldable pub place_at : Section → Key → List (List ℕ) → Members → Result ℕ TextFault
place_at s key names ms = do
  name ← text_at s key ms
  ok_or (position (bytes_eq name) names) (fault.Key UnknownName s key)
