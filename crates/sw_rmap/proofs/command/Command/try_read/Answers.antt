use Rattle.std.proofs.Common.{subst, sym, ap, not, ◌≡◌, ◌==◌, ◌<◌, ◌≤◌, ◌∙◌, ◌+◌, ◌-◌, arith, drop, get_or, length, take}
use Rattle.std.proofs.lemmas.Bool.{eq-eqb, ne_eqb}
use Rattle.std.proofs.lemmas.List.{take_rest}
use Rattle.sw_rmap.specs.Instruction.{packet_type, reply_address_len}
use Rattle.sw_rmap.proofs.Reading.{code_told, command_here, fields_are_right, no_type, other_protocol, read_fields, too_short, wrong_code}
use Rattle.sw_rmap.proofs.command.Command.try_read.Goals as goal

pub returns-then-bytes-lt16 : goal.returns-then-bytes-lt16
returns-then-bytes-lt16 c = too_short c.args.bytes.now (omega (arith, c.if-bytes-lt16.true))

pub returns-then-bytes-path : goal.returns-then-bytes-path
returns-then-bytes-path c =
    let path : c.reply_address_len-path.result ≡ reply_address_len (get_or c.args.bytes.now 2 0) = c.reply_address_len-path.ensures.value ∙ ap reply_address_len c.from_byte-instruction.ensures in
    too_short c.args.bytes.now (subst (λ n. length c.args.bytes.now < 16 + n) path c.if-bytes-path.true)

pub returns-then-bytes-ne-PROTOCOL : goal.returns-then-bytes-ne-PROTOCOL
returns-then-bytes-ne-PROTOCOL c =
    let bytes = c.args.bytes.now in
    let path : c.reply_address_len-path.result ≡ reply_address_len (get_or bytes 2 0) = c.reply_address_len-path.ensures.value ∙ ap reply_address_len c.from_byte-instruction.ensures in
    other_protocol bytes (subst (λ n. 16 + n ≤ length bytes) path c.if-bytes-path.false) (ne_eqb _ _ c.if-bytes-ne-PROTOCOL.true)

pub returns-then-crc-back : goal.returns-then-crc-back
returns-then-crc-back c =
    let bytes = c.args.bytes.now in
    let path = c.reply_address_len-path.result in
    let at : path ≡ reply_address_len (get_or bytes 2 0) = c.reply_address_len-path.ensures.value ∙ ap reply_address_len c.from_byte-instruction.ensures in
    wrong_code bytes (subst (λ n. 16 + n ≤ length bytes) at c.if-bytes-path.false) (eq-eqb _ _ c.if-bytes-ne-PROTOCOL.false)
    (sym (code_told bytes _ path c.crc.result at c.crc.ensures (take_rest bytes (4 + path))) ∙ ne_eqb _ _ c.if-crc-back.true)

pub returns-then-not-is_command : goal.returns-then-not-is_command
returns-then-not-is_command c =
    let bytes = c.args.bytes.now in
    let path = c.reply_address_len-path.result in
    let at : path ≡ reply_address_len (get_or bytes 2 0) = c.reply_address_len-path.ensures.value ∙ ap reply_address_len c.from_byte-instruction.ensures in
    no_type bytes (subst (λ n. 16 + n ≤ length bytes) at c.if-bytes-path.false) (eq-eqb _ _ c.if-bytes-ne-PROTOCOL.false)
    (sym (code_told bytes _ path c.crc.result at c.crc.ensures (take_rest bytes (4 + path))) ∙ eq-eqb _ _ c.if-crc-back.false)
    (ap (λ i. not (packet_type i == 0)) (sym c.from_byte-instruction.ensures) ∙ sym c.is_command.ensures ∙ c.if-not-is_command.true)

pub returns : goal.returns
returns c =
    let bytes = c.args.bytes.now in
    let path = c.reply_address_len-path.result in
    let at : path ≡ reply_address_len (get_or bytes 2 0) = c.reply_address_len-path.ensures.value ∙ ap reply_address_len c.from_byte-instruction.ensures in
    let here = command_here bytes (subst (λ n. 16 + n ≤ length bytes) at c.if-bytes-path.false) (eq-eqb _ _ c.if-bytes-ne-PROTOCOL.false)
    (sym (code_told bytes _ path c.crc.result at c.crc.ensures (take_rest bytes (4 + path))) ∙ eq-eqb _ _ c.if-crc-back.false)
    (ap (λ i. not (packet_type i == 0)) (sym c.from_byte-instruction.ensures) ∙ sym c.is_command.ensures ∙ c.if-not-is_command.false) in
    rw c.from_byte-instruction.ensures (read_fields bytes c.keep.result.items _ path _ c.number.result c.number-2.result c.number-3.result
    here at c.keep.ensures (omega arith)
    (take_rest bytes (4 + path)) c.number.ensures.value c.number-2.ensures.value c.number-3.ensures.value)

pub invariant_of-result : goal.invariant_of-result
invariant_of-result c =
    let bytes = c.args.bytes.now in
    let path = c.reply_address_len-path.result in
    let from = 4 + path in
    let at : path ≡ reply_address_len (get_or bytes 2 0) = c.reply_address_len-path.ensures.value ∙ ap reply_address_len c.from_byte-instruction.ensures in
    let here = command_here bytes (subst (λ n. 16 + n ≤ length bytes) at c.if-bytes-path.false) (eq-eqb _ _ c.if-bytes-ne-PROTOCOL.false)
    (sym (code_told bytes _ path c.crc.result at c.crc.ensures (take_rest bytes from)) ∙ eq-eqb _ _ c.if-crc-back.false)
    (ap (λ i. not (packet_type i == 0)) (sym c.from_byte-instruction.ensures) ∙ sym c.is_command.ensures ∙ c.if-not-is_command.false) in
    rw c.from_byte-instruction.ensures (fields_are_right bytes c.keep.result.items (take (length bytes - from) (drop from bytes)) path _ c.number.result c.number-2.result c.number-3.result
    here at c.keep.ensures (omega arith)
    c.number.ensures.fits c.number-2.ensures.fits c.number-3.ensures.fits)
