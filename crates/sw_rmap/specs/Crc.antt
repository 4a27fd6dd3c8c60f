-- The cyclic redundancy code of RMAP (ECSS-E-ST-50-52C, RMAP CRC).
use Rattle.std.specs.Prelude.{ℕ, ◌/◌, ◌%◌, List, [], ◌∷◌, ◌++◌, fold, bit_xor, ◌==◌, if◌then◌else◌}

-- one shift to the right; where the bit shifted out was 1, the polynomial is added
abbrev pub shifted : ℕ → ℕ
shifted x = if x % 2 == 1 then bit_xor (x / 2) 0xE0 else x / 2

-- one shift for each bit of a byte
unfoldable pub eight_shifts : ℕ → ℕ
eight_shifts x = shifted (shifted (shifted (shifted (shifted (shifted (shifted (shifted x)))))))

-- from 0 on, each byte in turn is added to the code, which then is shifted eight times
unfoldable pub crc_of : List ℕ → ℕ
crc_of bytes = fold (λ crc byte. eight_shifts (bit_xor crc byte)) 0 bytes

-- a text, and its code behind it
abbrev pub with_crc : List ℕ → List ℕ
with_crc bytes = bytes ++ crc_of bytes ∷ []
