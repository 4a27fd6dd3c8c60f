-- The digits that bytes are written with are read as these bytes.
use Rattle.std.proofs.Common.{◌≡◌, ℕ, ◌+◌, ◌*◌, ◌/◌, ◌%◌, ◌<◌, Bool, true, false, not, ◌&&◌, List, [], ◌∷◌, Option, Some, None, refl, ap, arith, eqb-true}
use Rattle.std.specs.Prelude.{◌==◌, slice_index, unwrap_or}
use Rattle.std.proofs.lemmas.Bool.{agree_below_at, and_parts, not-true}
use Rattle.hex.specs.Hex.{encode_upper, encode_with, upper_digits}
use Rattle.sw_load.specs.Cargo.{ArePairs, hex_pair, hex_value}

-- ---- the digits of a byte

abbrev pub digit : ℕ → ℕ
digit v = slice_index upper_digits v

-- a digit reads as its value, and is neither a space nor LF
abbrev is_right : ℕ → Bool
is_right v = (unwrap_or (hex_value (digit v)) 99 == v) && (not (digit v == 32) && not (digit v == 10))

some_from_unwrap : (o : Option ℕ) (v : ℕ) → v < 16 → unwrap_or o 99 ≡ v → o ≡ Some v
some_from_unwrap (Some w) v lt e = ap Some e
some_from_unwrap None v lt e = absurd (omega (arith, lt, e))

pub record IsDigit (v : ℕ) : Type 0 where
  pub value : hex_value (digit v) ≡ Some v
  pub no_space : (digit v == 32) ≡ false
  pub no_lf : (digit v == 10) ≡ false

pub digit_right : (v : ℕ) → v < 16 → IsDigit v
digit_right v lt =
    let parts = and_parts (unwrap_or (hex_value (digit v)) 99 == v) (not (digit v == 32) && not (digit v == 10)) (agree_below_at is_right (λ _. true) 16 v refl lt) in
    let free = and_parts (not (digit v == 32)) (not (digit v == 10)) parts.1 in
    record { value = some_from_unwrap (hex_value (digit v)) v lt (eqb-true _ _ parts.0); no_space = not-true _ free.0; no_lf = not-true _ free.1 }

-- ---- the pairs of bytes

abbrev pub IsBytes : List ℕ → Type 0
IsBytes [] = Unit {0}
IsBytes (b ∷ bytes) = (b < 256) × IsBytes bytes

pub pair : (b : ℕ) → b < 256 → hex_pair (digit (b / 16)) (digit (b % 16)) ≡ Some b
pair b lt =
    let high = digit_right (b / 16) (omega (arith, lt)) in
    let low = digit_right (b % 16) (omega arith) in
    let same : 16 * (b / 16) + b % 16 ≡ b = omega arith in
    rw (high.value, low.value) (ap Some same)

pub are_pairs : (bytes : List ℕ) → IsBytes bytes → ArePairs (encode_upper bytes) bytes
unfolding encode_with
are_pairs [] h = tt
are_pairs (b ∷ bytes) h = (pair b h.0, are_pairs bytes h.1)
