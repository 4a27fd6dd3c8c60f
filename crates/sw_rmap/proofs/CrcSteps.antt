-- The steps of the code, and what the table says.
use Rattle.std.proofs.Common.{◌≡◌, ℕ, ◌+◌, ◌<◌, true, eqb, List, length, take, get_or, refl, ◌∙◌}
use Rattle.std.specs.Prelude.{bit_xor}
use Rattle.std.specs.Int.Bits.{xor_self}
use Rattle.std.proofs.lemmas.Bool.{agree_below_at, eqb-true}
use Rattle.std.proofs.lemmas.List.Sums.{fold_more, fold_push}
use Rattle.sw_rmap.specs.declared.checksum.TheConstants.{EIGHT_SHIFTS}
use Rattle.sw_rmap.specs.Crc.{eight_shifts, crc_of, with_crc}

-- each entry of the table is what eight shifts make of its index
pub table_at : (x : ℕ) → x < 256 → get_or EIGHT_SHIFTS x 0 ≡ eight_shifts x
unfolding eight_shifts
table_at x lt = eqb-true _ _ (agree_below_at (λ y. eqb (get_or EIGHT_SHIFTS y 0) (eight_shifts y)) (λ y. true) 256 x refl lt)

pub crc_more : (bytes : List ℕ) (i : ℕ) → i < length bytes → crc_of (take (i + 1) bytes) ≡ eight_shifts (bit_xor (crc_of (take i bytes)) (get_or bytes i 0))
unfolding crc_of
crc_more bytes i lt = fold_more (λ crc byte. eight_shifts (bit_xor crc byte)) 0 bytes i 0 lt

zero_shifts : eight_shifts 0 ≡ 0
unfolding eight_shifts
zero_shifts = refl

pub crc-whole : (bytes : List ℕ) → crc_of (with_crc bytes) ≡ 0
unfolding crc_of
crc-whole bytes = fold_push (λ crc byte. eight_shifts (bit_xor crc byte)) 0 bytes (crc_of bytes) ∙ rw xor_self zero_shifts
