use Rattle.std.proofs.Common.{Bool, None, Some, ap, cond, sym, ◌∙◌}
use Rattle.sw_cert.specs.declared.refusal.Refusal.TheVariants.{NotClosed}
use Rattle.sw_cert.proofs.Followed.{followed}
use Rattle.sw_cert.proofs.closed.refusal_of_place.Goals as goal

pub returns-then-is_closed : goal.returns-then-is_closed
returns-then-is_closed c =
    ap (λ (b : Bool). cond b None (Some (NotClosed c.args.number c.args.place.now))) (sym c.if-is_closed.true ∙ c.is_closed.ensures)
    ∙ sym (followed c.args.network.now c.args.number c.args.flow.now c.args.listed.now c.args.place.now _ _ (sym c.followers_in-followers.ensures ∙ c.in-Some.ensures.steps))

pub returns-else-is_closed : goal.returns-else-is_closed
returns-else-is_closed c =
    ap (λ (b : Bool). cond b None (Some (NotClosed c.args.number c.args.place.now))) (sym c.if-is_closed.false ∙ c.is_closed.ensures)
    ∙ sym (followed c.args.network.now c.args.number c.args.flow.now c.args.listed.now c.args.place.now _ _ (sym c.followers_in-followers.ensures ∙ c.in-Some.ensures.steps))
