use Rattle.std.proofs.Common.{◌≡◌, ◌<◌, refl, sym, ap, ◌∙◌, arith, get_or}
use Rattle.std.specs.Prelude.{bit_xor}
use Rattle.std.proofs.lemmas.List.{take_all}
use Rattle.std.proofs.lemmas.Nat.{xor_of_8}
use Rattle.sw_rmap.specs.Crc.{crc_of, eight_shifts}
use Rattle.sw_rmap.proofs.CrcSteps.{table_at, crc_more}
use Rattle.sw_rmap.proofs.checksum.crc.Goals as goal

pub loop-byte-init : goal.loop-byte-init
unfolding crc_of
loop-byte-init c = refl

pub loop-byte-preserved : goal.loop-byte-preserved
loop-byte-preserved c =
    let byte = get_or c.args.bytes.now c.loop-byte.byte-index 0 in
    let index : c.from.result ≡ bit_xor c.loop-byte.crc byte = c.from.ensures in
    let low : bit_xor c.loop-byte.crc byte < 256 = xor_of_8 c.loop-byte.crc byte (omega arith) (omega (arith, c.type_inv.bytes c.loop-byte.byte-index)) in
    rw index (table_at _ low ∙ ap (λ crc. eight_shifts (bit_xor crc byte)) c.loop-byte.invariant ∙ sym (crc_more c.args.bytes.now c.loop-byte.byte-index c.loop-byte-test.true))

pub returns : goal.returns
returns c = c.loop-byte.invariant ∙ ap crc_of (take_all c.loop-byte.byte-index c.args.bytes.now c.loop-byte-test.false)
