-- Numbers as words of the command line (this project's choice).
use Rattle.std.specs.Prelude.{ℕ, ◌+◌, ◌*◌, Bool, ◌&&◌, nat_le, nat_lt, List, [], ◌∷◌, codes, drop, take, Option, Some, None, if◌then◌else◌}
use Rattle.std.specs.Char.{digit_value}
use Rattle.std.specs.Str.{bytes_eq}

-- the number up to the limit that digits of this base write, going on from n
abbrev pub goes_on : ℕ → ℕ → ℕ → List ℕ → Option ℕ
goes_on base limit n [] = Some n
goes_on base limit n (c ∷ cs) =
    if nat_lt (digit_value c) base && nat_le (base * n + digit_value c) limit then goes_on base limit (base * n + digit_value c) cs else None

-- one digit at least
abbrev pub digits_of : ℕ → ℕ → List ℕ → Option ℕ
digits_of base limit [] = None
digits_of base limit (c ∷ cs) = goes_on base limit 0 (c ∷ cs)

-- `0x` stands before the digits of a hexadecimal number
abbrev pub is_hexadecimal : List ℕ → Bool
is_hexadecimal word = bytes_eq (take 2 word) (codes "0x")

-- the number up to the limit that a word writes: decimal digits, or `0x` and hexadecimal digits in either case
abbrev pub number_of : ℕ → List ℕ → Option ℕ
number_of limit word = if is_hexadecimal word then digits_of 16 limit (drop 2 word) else digits_of 10 limit word
