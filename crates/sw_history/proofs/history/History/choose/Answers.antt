use Rattle.std.proofs.Common.{subst, sym}
use Rattle.sw_history.proofs.Idle.{idle_by, next_move}
use Rattle.sw_history.proofs.history.History.choose.Goals as goal
use Rattle.sw_history.specs.History.{HistoryView, IsKept, IsNextAt}
use Rattle.sw_machine.specs.StepValues.{machine_step}

pub returns-in-Some-clause-some : goal.returns-in-Some-clause-some
returns-in-Some-clause-some g c =
    let in_self = c.self.inside in
    let kept = subst (λ (k : HistoryView). IsKept in_self.net k in_self.begun.items in_self.unanswered) c.self.view_is c.self.invariant.0 in
    next_move in_self.net c.args.self.now in_self.begun.items kept c.args.end (machine_step c.in-Some.step) c.in-Some.ensures.some c.in-Some.ensures.possible

pub returns-in_ok-beginning-in-Some-may_begin_at-clause-some : goal.returns-in_ok-beginning-in-Some-may_begin_at-clause-some
returns-in_ok-beginning-in-Some-may_begin_at-clause-some g c =
    subst (IsNextAt c.args.self.now c.args.end) (sym c.in_ok-beginning-in-Some-may_begin_at.ensures) c.in-Some-may_begin_at.ensures.some

pub returns-in-None-clause-none : goal.returns-in-None-clause-none
returns-in-None-clause-none g c =
    let in_self = c.self.inside in
    let kept = subst (λ (k : HistoryView). IsKept in_self.net k in_self.begun.items in_self.unanswered) c.self.view_is c.self.invariant.0 in
    idle_by in_self.net c.args.self.now in_self.begun.items kept c.args.end c.in_default.ensures.none c.in-None.ensures.none
