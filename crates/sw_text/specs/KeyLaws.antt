-- What the search for unknown keys comes to.
use Rattle.std.specs.Prelude.{◌≡◌, ◌↔◌, ℕ, true, false, List, IsSome, Ok, Err}
use Rattle.std.specs.Cmp.Lexicographic.{slice_cmp}
use Rattle.std.specs.Ordering.{nat_cmp}
use Rattle.std.specs.declared.cmp.Ordering.TheVariants.{Less}
use Rattle.toml.specs.Data.{Members, get_member}
use Rattle.sw_text.specs.declared.keys.Key.{Key}
use Rattle.sw_text.specs.declared.keys.Section.{Section}
use Rattle.sw_text.specs.declared.fault.TextFault.TheVariants.{UnknownKey}
use Rattle.sw_text.specs.Table.{is_known, only_known}

-- whatever stands in the table stands at one of the keys
abbrev pub HasOnly : List Key → Members → Type 0
HasOnly keys ms = (name : List ℕ) → IsSome (get_member name ms) → is_known keys name ≡ true

-- something stands at the name, which is none of the keys, and at no such name that is less by bytes
pub record IsLeastUnknown (keys : List Key) (ms : Members) (name : List ℕ) : Type 0 where
  pub stands : IsSome (get_member name ms)
  pub unknown : is_known keys name ≡ false
  pub least : (other : List ℕ) → IsSome (get_member other ms) → is_known keys other ≡ false → ¬ (slice_cmp nat_cmp other name ≡ Less)

-- a table passes exactly where it has none but the keys, and where it does not, its least unknown name is the fault
abbrev pub RefusesLeastUnknown : Type 0
RefusesLeastUnknown =
    (s : Section) (keys : List Key) (ms : Members)
    → ((only_known s keys ms ≡ Ok tt) ↔ HasOnly keys ms) × ((name : List ℕ) → (only_known s keys ms ≡ Err (UnknownKey s name)) ↔ IsLeastUnknown keys ms name)
