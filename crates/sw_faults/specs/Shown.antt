-- Bytes as a terminal shows them (this project's choice).
use Rattle.std.specs.Prelude.{ℕ, List, [], ◌∷◌, ◌++◌, ◌&&◌, codes, encode_utf8, flat_map, if◌then◌else◌, nat_le, nat_lt}
use Rattle.hex.specs.Hex.{encode_upper}

-- printable ASCII as it is, any other byte as `\xHH`
abbrev pub shown_byte : ℕ → List ℕ
shown_byte b = if nat_le 32 b && nat_lt b 127 then encode_utf8 b else codes "\\x" ++ encode_upper (b ∷ [])

abbrev pub shown : List ℕ → List ℕ
shown bytes = flat_map shown_byte bytes
