-- The cargo text of a load file (this project's choice): hexadecimal pairs, or one pair that is repeated.
use Rattle.std.specs.Prelude.{◌≡◌, ℕ, ◌+◌, ◌-◌, ◌*◌, ◌≤◌, ◌⊎◌, ◌↔◌, Bool, not, true, false, ◌==◌, ◌&&◌, nat_le, List, [], ◌∷◌, ◌++◌, length, drop, slice_index, Option, Some, None, option_map, option_and_then, fold, replicate, if◌then◌else◌}
use Rattle.std.specs.List.{filter, list_all}

-- spaces count for nothing
abbrev pub without_spaces : List ℕ → List ℕ
without_spaces text = filter (λ c. not (c == 32)) text

-- what a hexadecimal digit is worth, in either case
abbrev pub hex_value : ℕ → Option ℕ
hex_value c =
    if nat_le 48 c && nat_le c 57 then Some (c - 48)
    else if nat_le 65 c && nat_le c 70 then Some (c - 55)
    else if nat_le 97 c && nat_le c 102 then Some (c - 87)
    else None

-- the byte that two hexadecimal digits write
abbrev pub hex_pair : ℕ → ℕ → Option ℕ
hex_pair high low = option_and_then (λ h. option_map (λ l. 16 * h + l) (hex_value low)) (hex_value high)

-- the text is the pairs of these bytes, one after another
abbrev pub ArePairs : List ℕ → List ℕ → Type 0
ArePairs [] [] = Unit {0}
ArePairs [] (b ∷ bytes) = ⊥
ArePairs (h ∷ []) bytes = ⊥
ArePairs (h ∷ l ∷ text) [] = ⊥
ArePairs (h ∷ l ∷ text) (b ∷ bytes) = (hex_pair h l ≡ Some b) × ArePairs text bytes

-- what decimal digits are worth
abbrev pub decimal_value : List ℕ → ℕ
decimal_value digits = fold (λ n c. 10 * n + (c - 48)) 0 digits

abbrev pub is_digit : ℕ → Bool
is_digit c = nat_le 48 c && nat_le c 57

-- the first is not 0
abbrev pub is_well_begun : List ℕ → Bool
is_well_begun [] = false
is_well_begun (c ∷ cs) = not (c == 48)

-- the digits write the number, which is 1 to 4,096, without leading zeros
pub record IsCount (digits : List ℕ) (n : ℕ) : Type 0 where
  pub begins : is_well_begun digits ≡ true
  pub decimal : list_all is_digit digits ≡ true
  pub value : decimal_value digits ≡ n
  pub few : n ≤ 4096

-- pairs, of 1 to 4,096 bytes
pub record IsPairs (text bytes : List ℕ) : Type 0 where
  pub pairs : ArePairs text bytes
  pub some : 1 ≤ length bytes
  pub few : length bytes ≤ 4096

-- one pair, `*`, and how many times it stands
pub record IsRepeated (text bytes : List ℕ) : Type 0 where
  pub high : ℕ
  pub low : ℕ
  pub byte : ℕ
  pub digits : List ℕ
  pub count : ℕ
  pub spelled : text ≡ high ∷ low ∷ 42 ∷ digits
  pub pair : hex_pair high low ≡ Some byte
  pub counted : IsCount digits count
  pub repeated : bytes ≡ replicate count byte

-- the text spells these bytes
abbrev pub IsCargo : List ℕ → List ℕ → Type 0
IsCargo text bytes = IsPairs (without_spaces text) bytes ⊎ IsRepeated (without_spaces text) bytes

-- the number up to 4,096 that digits write, going on from n
abbrev pub count_after : ℕ → List ℕ → Option ℕ
count_after n [] = Some n
count_after n (c ∷ cs) = if is_digit c && nat_le (10 * n + (c - 48)) 4096 then count_after (10 * n + (c - 48)) cs else None

abbrev pub count_of : List ℕ → Option ℕ
count_of digits = if is_well_begun digits then count_after 0 digits else None

-- the bytes whose pairs these are, behind those that were read before
abbrev pub bytes_after : List ℕ → List ℕ → Option (List ℕ)
bytes_after done [] = Some done
bytes_after done (h ∷ []) = None
bytes_after done (h ∷ l ∷ text) = option_and_then (λ b. bytes_after (done ++ b ∷ []) text) (hex_pair h l)

abbrev pub if_some_and_few : List ℕ → Option (List ℕ)
if_some_and_few bytes = if nat_le 1 (length bytes) && nat_le (length bytes) 4096 then Some bytes else None

abbrev pub pairs_of : List ℕ → Option (List ℕ)
pairs_of text = option_and_then if_some_and_few (bytes_after [] text)

abbrev pub repeated_of : ℕ → ℕ → List ℕ → Option (List ℕ)
repeated_of high low digits = option_and_then (λ b. option_map (λ n. replicate n b) (count_of digits)) (hex_pair high low)

-- the third character is `*`
abbrev pub is_repetition : List ℕ → Bool
is_repetition text = nat_le 3 (length text) && (slice_index text 2 == 42)

-- the bytes that a text without spaces spells
abbrev pub bytes_of : List ℕ → Option (List ℕ)
bytes_of text = if is_repetition text then repeated_of (slice_index text 0) (slice_index text 1) (drop 3 text) else pairs_of text

-- the bytes that a text spells, if it spells any
unfoldable pub cargo_of : List ℕ → Option (List ℕ)
cargo_of text = bytes_of (without_spaces text)

-- a text is read as bytes exactly where it spells them
abbrev pub CargoIsRead : Type 0
CargoIsRead = (text bytes : List ℕ) → (cargo_of text ≡ Some bytes) ↔ IsCargo text bytes
