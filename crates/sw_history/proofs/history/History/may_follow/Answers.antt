use Rattle.std.proofs.Common.{subst}
use Rattle.sw_history.proofs.Idle.{tells_next}
use Rattle.sw_history.proofs.history.History.may_follow.Goals as goal
use Rattle.sw_history.specs.History.{HistoryView, IsKept}
use Rattle.sw_machine.specs.StepValues.{machine_step}

pub returns-in-Ok : goal.returns-in-Ok
returns-in-Ok g c =
    let in_self = c.self.inside in
    let kept = subst (λ (k : HistoryView). IsKept in_self.net k in_self.begun.items in_self.unanswered) c.self.view_is c.self.invariant.0 in
    tells_next in_self.net c.args.self.now in_self.begun.items kept (machine_step c.args.step.now) c.is_possible.result c.is_possible.ensures c.in-Ok.ensures.next c.in-Ok.ensures.keeps
