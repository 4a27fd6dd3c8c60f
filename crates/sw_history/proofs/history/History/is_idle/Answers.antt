use Rattle.std.proofs.Common.{subst}
use Rattle.std.proofs.lemmas.Bool.{false≢true}
use Rattle.sw_history.proofs.Idle.{idle_told, not_idle}
use Rattle.sw_history.proofs.history.History.is_idle.Goals as goal
use Rattle.sw_history.specs.History.{HistoryView, IsKept}
use Rattle.sw_load.specs.History.{packet_of}
use Rattle.sw_net.specs.Asked.{CanStep}

pub returns-then-can_step : goal.returns-then-can_step
returns-then-can_step g c =
    let in_self = c.self.inside in
    let kept = subst (λ (k : HistoryView). IsKept in_self.net k in_self.begun.items in_self.unanswered) c.self.view_is c.self.invariant.0 in
    let can = subst (CanStep in_self.net c.args.end) c.if-can_step.true c.can_step.ensures in
    (λ t. absurd (false≢true t), λ idle. absurd (not_idle in_self.net c.args.self.now in_self.begun.items kept c.args.end can idle))

pub returns : goal.returns
returns g c =
    let in_self = c.self.inside in
    let kept = subst (λ (k : HistoryView). IsKept in_self.net k in_self.begun.items in_self.unanswered) c.self.view_is c.self.invariant.0 in
    let none = subst (CanStep in_self.net c.args.end) c.if-can_step.false c.can_step.ensures in
    idle_told in_self.net c.args.self.now in_self.begun.items kept c.args.end none (λ p. packet_of p.now) c.may_begin_at.result c.is_none.result c.is_none.ensures c.may_begin_at.ensures.some c.may_begin_at.ensures.none
