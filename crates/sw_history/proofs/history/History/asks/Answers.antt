use Rattle.std.proofs.Common.{subst}
use Rattle.sw_history.proofs.Asking.{asks_then}
use Rattle.sw_history.proofs.history.History.asks.Goals as goal
use Rattle.sw_history.specs.History.{HistoryView, IsKept}

pub returns : goal.returns
returns g c =
    let in_self = c.self.inside in
    let kept = subst (λ (k : HistoryView). IsKept in_self.net k in_self.begun.items in_self.unanswered) c.self.view_is c.self.invariant.0 in
    asks_then in_self.net c.args.self.now in_self.begun.items kept c.args.end c.asks.result c.asks.ensures
