use Rattle.std.proofs.Common.{subst}
use Rattle.sw_history.proofs.history.History.network.Goals as goal
use Rattle.sw_history.specs.History.{HistoryView, IsKept}
use Rattle.sw_config.specs.Valid.{IsValid}

pub returns-clause-sound : goal.returns-clause-sound
returns-clause-sound g c =
    let in_self = c.self.inside in
    let kept = subst (λ (k : HistoryView). IsKept in_self.net k in_self.begun.items in_self.unanswered) c.self.view_is c.self.invariant.0 in
    record { valid = subst IsValid kept.network c.network.ensures.sound.valid; packets = kept.packets; state = kept.state; leads = kept.leads }
