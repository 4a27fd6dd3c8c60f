use Rattle.std.proofs.Common.{◌≡◌, List, ℕ, ◌∙◌, ◌+◌, ◌++◌, ◌∷◌, [], ap, append_assoc, drop, sym, take}
use Rattle.std.proofs.lemmas.List.{take_all, take_more}
use Rattle.sw_rmap.specs.Owing.{PendingReply}
use Rattle.sw_node.proofs.reply.push_replies.Goals as goal

pub loop-reply-preserved : goal.loop-reply-preserved
loop-reply-preserved c =
    let i = c.loop-reply.reply-index in
    let reply = c.reply-item.result in
    let waiting = c.args.waiting.now in
    let old = c.args.replies.now.items in
    let before = c.loop-reply.replies.items in
    let made : List ℕ → List ℕ → List PendingReply = λ address cargo. record { address = address; cargo = cargo } ∷ [] in
    let pushed : c.push.new.self.items ≡ before ++ made c.in_ok-address.address.items c.in_ok-cargo.cargo.items = c.in_ok-push.ensures.items in
    let address = c.in_ok-address.ensures.items ∙ c.split_at.ensures.front ∙ ap (take c.reply.inside.address) c.deref.ensures.value in
    let cargo = c.in_ok-cargo.ensures.items ∙ c.split_at.ensures.back ∙ ap (drop c.reply.inside.address) c.deref.ensures.value in
    pushed
    ∙ ap (λ x. before ++ made x c.in_ok-cargo.cargo.items) address
    ∙ ap (λ x. before ++ made (take c.reply.inside.address c.reply.inside.bytes.items) x) cargo
    ∙ ap (λ r. before ++ r ∷ []) c.reply.view_is
    ∙ ap (λ rs. rs ++ reply ∷ []) c.loop-reply.invariant
    ∙ append_assoc old (take i waiting) (reply ∷ [])
    ∙ ap (λ r. old ++ (take i waiting ++ r ∷ [])) c.reply-item.is
    ∙ ap (λ rs. old ++ rs) (sym (take_more waiting i reply c.loop-reply-test.true))

pub returns : goal.returns
returns c = c.loop-reply.invariant ∙ ap (λ rs. c.args.replies.now.items ++ rs) (take_all c.loop-reply.reply-index c.args.waiting.now c.loop-reply-test.false)
