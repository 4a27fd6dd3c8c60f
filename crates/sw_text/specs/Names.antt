-- The names of nodes, switches and flows (this project's choice).
use Rattle.std.specs.Prelude.{ℕ, Bool, ◌&&◌, ◌||◌, ◌==◌, nat_le, List, length, Result, Ok, Err, if◌then◌else◌}
use Rattle.std.specs.List.{list_all}
use Rattle.toml.specs.Data.{Members}
use Rattle.sw_text.specs.declared.keys.Key.TheVariants.{Name}
use Rattle.sw_text.specs.declared.keys.Section.{Section}
use Rattle.sw_text.specs.declared.fault.KeyFault.TheVariants.{OutOfRange}
use Rattle.sw_text.specs.declared.fault.TextFault.{TextFault}
use Rattle.sw_text.specs.declared.fault.TextFault.TheVariants as fault
use Rattle.sw_text.specs.Gives.{◌>>=◌}
use Rattle.sw_text.specs.Table.{text_at}

-- an ASCII letter, a digit, `_`, `-` or `.`
abbrev pub is_name_byte : ℕ → Bool
is_name_byte b = (nat_le 97 b && nat_le b 122) || (nat_le 65 b && nat_le b 90) || (nat_le 48 b && nat_le b 57) || b == 95 || b == 45 || b == 46

-- 1 to 32 such bytes
abbrev pub is_name : List ℕ → Bool
is_name bytes = nat_le 1 (length bytes) && nat_le (length bytes) 32 && list_all is_name_byte bytes

-- the name that the table gives its entry
unfoldable pub name_at : Section → Members → Result (List ℕ) TextFault
name_at s ms = do
  name ← text_at s Name ms
  if is_name name then Ok name else Err (fault.Key OutOfRange s Name)
