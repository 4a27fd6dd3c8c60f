use Rattle.std.proofs.Common.{ap, append_assoc, get_or, sym, [], ◌++◌, ◌∙◌, ◌∷◌}
use Rattle.sw_rmap.proofs.Added.{head_is, if_added, with_data, without_data}
use Rattle.sw_rmap.proofs.reply.push_left_form.Goals as goal
use Rattle.sw_rmap.specs.Crc.{with_crc}
use Rattle.sw_rmap.specs.Instruction.{is_write}

pub returns-then-is_write : goal.returns-then-is_write
returns-then-is_write c =
    let t = c.to_be_bytes.result in
    let head = c.initiator-initiator.result ∷ 1 ∷ c.of_reply-instruction.result ∷ c.code-status.result ∷ c.logical-logical.result ∷ get_or t 0 0 ∷ get_or t 1 0 ∷ [] in
    let is = head_is c.args.command.now c.args.status c.initiator-initiator.result c.bits-bits.result c.of_reply-instruction.result c.code-status.result c.logical-logical.result c.transaction.result t
    c.initiator-initiator.ensures c.bits-bits.ensures.value c.of_reply-instruction.ensures c.code-status.ensures c.logical-logical.ensures c.transaction.ensures c.to_be_bytes.ensures in
    let writes = ap is_write (sym c.bits-bits.ensures.value) ∙ sym c.is_write.ensures ∙ c.if-is_write.true in
    if_added c.push_with_crc.result (λ added. added ∙ ap (λ l. c.args.out.now.items ++ l) (without_data c.args.command.now c.args.status c.args.found.now head writes is)) c.push_with_crc.ensures

pub returns-in_ok-push_with_crc : goal.returns-in_ok-push_with_crc
returns-in_ok-push_with_crc c =
    let t = c.to_be_bytes.result in
    let head = c.initiator-initiator.result ∷ 1 ∷ c.of_reply-instruction.result ∷ c.code-status.result ∷ c.logical-logical.result ∷ get_or t 0 0 ∷ get_or t 1 0 ∷ [] in
    let is = head_is c.args.command.now c.args.status c.initiator-initiator.result c.bits-bits.result c.of_reply-instruction.result c.code-status.result c.logical-logical.result c.transaction.result t
    c.initiator-initiator.ensures c.bits-bits.ensures.value c.of_reply-instruction.ensures c.code-status.ensures c.logical-logical.ensures c.transaction.ensures c.to_be_bytes.ensures in
    let reads = ap is_write (sym c.bits-bits.ensures.value) ∙ sym c.is_write.ensures ∙ c.if-is_write.false in
    let out = c.args.out.now.items in
    let found = c.args.found.now in
    if_added c.push_with_crc-else-is_write-2.result
    (λ added.
    added ∙ ap (λ l. l ++ with_crc found) c.in_ok-push_with_crc.ensures ∙ append_assoc out _ (with_crc found)
    ∙ ap (λ l. out ++ l) (with_data c.args.command.now c.args.status found head c.to_be_bytes-else-is_write.result reads is c.to_be_bytes-else-is_write.ensures))
    c.push_with_crc-else-is_write-2.ensures
