-- The text of a value: no space in it, each number in decimal digits, and LF behind it (RFC 8259: JSON).
use Rattle.std.specs.Prelude.{◌≡◌, ℕ, List, ◌++◌, codes, Some}
use Rattle.serde_json.specs.Data.{Data}
use Rattle.serde_json.specs.Read.{read}
use Rattle.serde_json.specs.Written.{compact_text}

abbrev pub text_of : Data → List ℕ
text_of value = compact_text value ++ codes "\n"

-- the text, without its LF, reads back as the value
abbrev pub ReadsBack : Data → Type 0
ReadsBack value = read (compact_text value) ≡ Some value
