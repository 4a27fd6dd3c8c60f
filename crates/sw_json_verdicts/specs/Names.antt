-- The names of the certificates that an audit keeps (this project's choice).
use Rattle.std.specs.Prelude.{◌≡◌, ◌<◌, ◌^◌, ℕ, ◌-◌, ◌==◌, List, ◌++◌, codes, drop, if◌then◌else◌, length, map, not, reverse, take}
use Rattle.std.specs.Fmt.{decimal}
use Rattle.std.specs.List.{prefix_len}
use Rattle.sw_text.specs.Names.{is_name_byte}

-- what stands behind a path's last `/`
abbrev pub file_name : List ℕ → List ℕ
file_name path = drop (length path - prefix_len (λ b. not (b == 47)) (reverse path)) path

-- a byte that no name of a network file has as `_`
abbrev pub plain_byte : ℕ → ℕ
plain_byte b = if is_name_byte b then b else 95

-- the file's number among those of the call, from 1, and at most 64 bytes of its name: `NUMBER-NAME.cert`
abbrev pub certificate_name : ℕ → List ℕ → List ℕ
certificate_name number path = decimal number ++ (codes "-" ++ (map plain_byte (take 64 (file_name path)) ++ codes ".cert"))

-- no two files of a call have certificates of one name
abbrev pub NamesDiffer : Type 0
NamesDiffer =
    (number other : ℕ) (path second : List ℕ)
    → number < 2 ^ 64 → other < 2 ^ 64 → certificate_name number path ≡ certificate_name other second → number ≡ other
