use Rattle.std.proofs.Common.{[], sym, ◌++◌, ◌∙◌}
use Rattle.std.proofs.lemmas.List.Elements.{same_from_all_zip}
use Rattle.sw_rmap.proofs.Added.{way_is}
use Rattle.sw_rmap.proofs.reply.reply_to.Goals as goal

pub returns : goal.returns
returns c =
    let path = c.path.result.now in
    let last = c.as_slice.result.now in
    let way = c.in_ok-way.way.items in
    way_is c.args.bytes.now way path last c.initiator.result c.in-Some.command c.in-Some.ensures (sym c.is_answered.ensures ∙ c.if-not-is_answered.false)
    (same_from_all_zip _ (path ++ (last ++ [])) way c.in_ok-way.ensures.ok (λ x y same. same)) c.as_slice.ensures c.path.ensures c.initiator.ensures
