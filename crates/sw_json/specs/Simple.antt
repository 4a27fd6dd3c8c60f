-- Simple values (this project's choice; RFC 8259: JSON). An object's members stand in the order of their keys' bytes.
use Rattle.std.specs.Prelude.{ℕ, List, Option, Some, None, map}
use Rattle.hex.specs.Hex.{encode_lower}
use Rattle.serde_json.specs.Data.{Data, array, null, number, string, unsigned}
use Rattle.serde_json.specs.View.{items_of}
use Rattle.sha2.specs.Sha256.{sha256}

abbrev pub count_value : ℕ → Data
count_value n = number (unsigned n)

-- a number, or null where there is none
abbrev pub count_or_null : Option ℕ → Data
count_or_null (Some n) = count_value n
count_or_null None = null

-- a text, or null where there is none
abbrev pub text_or_null : Option (List ℕ) → Data
text_or_null (Some text) = string text
text_or_null None = null

-- a list of texts
abbrev pub texts_value : List (List ℕ) → Data
texts_value texts = array (items_of (map string texts))

-- the SHA-256 of bytes (FIPS 180-4), as 64 hexadecimal digits with lower case letters
abbrev pub digest_text : List ℕ → List ℕ
digest_text bytes = encode_lower (sha256 bytes)
