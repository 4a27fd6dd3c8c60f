use Rattle.std.proofs.Common.{◌∙◌, ◌++◌, ◌∷◌, [], sym}
use Rattle.std.proofs.lemmas.List.{take_all, take_more}
use Rattle.sw_search.proofs.cyclic.channels_of.Goals as goal

pub loop-member-preserved : goal.loop-member-preserved
loop-member-preserved c =
    c.in_ok-push.ensures.items ∙ (λ i. c.loop-member.invariant i ++ c.new.ensures i ∷ []) ∙ sym (take_more c.args.members.now c.loop-member.member-index 0 c.loop-member-test.true)

pub returns : goal.returns
returns c = c.loop-member.invariant ∙ take_all c.loop-member.member-index c.args.members.now c.loop-member-test.false
