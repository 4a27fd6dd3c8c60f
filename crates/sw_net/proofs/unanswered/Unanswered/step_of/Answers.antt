use Rattle.std.proofs.Common.{Ok, subst}
use Rattle.sw_net.proofs.CountedSteps.{has_counted_move}
use Rattle.sw_net.proofs.unanswered.Unanswered.step_of.Goals as goal
use Rattle.sw_net.specs.Making.{MovesAt}

pub returns-in-Ok-Some-clause-counted : goal.returns-in-Ok-Some-clause-counted
returns-in-Ok-Some-clause-counted g c =
    let moves = subst (λ o. MovesAt g.R.Routing.answer g.A.Arbiter.policy c.args.net.now c.args.end (Ok o) c.step_of.new.self) c.in-Ok-Some.field-0-is c.in-Ok-Some.ensures.moves in
    has_counted_move c.args.net.now c.step_of.new.self c.args.self.now c.count.new.self c.step_of.ensures.network c.owed_at-before.result g.R.Routing.answer g.A.Arbiter.policy c.args.end c.in-Ok-Some.step
    c.owed_at-before.ensures moves c.count.ensures
