use Rattle.std.proofs.Common.{◌∙◌, sym}
use Rattle.sw_json.proofs.OneMember.{with_last}
use Rattle.sw_json.specs.Objects.{member_value}
use Rattle.sw_json.proofs.objects.object_of.Goals as goal

pub loop-member-preserved : goal.loop-member-preserved
loop-member-preserved c =
    let put = rw (c.loop-member.invariant, c.in_ok-made_value.ensures) at c.in_ok-put.ensures.ok in
    put ∙ sym (with_last (λ m. (m.0.now, member_value m.1)) c.loop-member.yielded c.in-Some.member _)
