use Rattle.std.proofs.Common.{[], ◌++◌}
use Rattle.std.proofs.lemmas.List.Elements.{same_from_all_zip}
use Rattle.std.proofs.lemmas.Result.{IfOk-weaker}
use Rattle.sw_rmap.proofs.Added.{header_is, three_joined}
use Rattle.sw_rmap.proofs.writing.header.Goals as goal

pub returns : goal.returns
returns c =
    let front = c.as_slice.result.now in
    let reply = c.reply_address.result.now in
    let back = c.as_slice-2.result.now in
    IfOk-weaker c.concat.result _ _
    (λ bytes is.
    three_joined bytes.items front _ reply back _ _ (same_from_all_zip _ (front ++ (reply ++ (back ++ []))) bytes.items is (λ x y same. same)) c.as_slice.ensures c.as_slice-2.ensures
    (header_is c.args.command.now c.logical.result c.instruction.result c.key.result c.initiator-initiator.result c.transaction.result c.address.result c.length.result reply c.to_be_bytes.result c.to_be_bytes-2.result c.to_be_bytes-3.result
    c.logical.ensures c.instruction.ensures.value c.key.ensures c.initiator-initiator.ensures c.transaction.ensures c.address.ensures.value c.length.ensures.value c.reply_address.ensures c.to_be_bytes.ensures c.to_be_bytes-2.ensures c.to_be_bytes-3.ensures))
    c.concat.ensures.ok
