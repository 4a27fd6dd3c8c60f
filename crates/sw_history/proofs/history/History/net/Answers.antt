use Rattle.std.proofs.Common.{subst, sym}
use Rattle.sw_history.proofs.Follows.{one_state_after}
use Rattle.sw_history.proofs.history.History.net.Goals as goal
use Rattle.sw_history.specs.History.{HistoryView, LeadsTo}
use Rattle.sw_load.specs.History.{packets_of}
use Rattle.sw_machine.specs.Model.{network_of}
use Rattle.sw_net.specs.Net.{IsNetState}

pub returns-clause-state : goal.returns-clause-state
returns-clause-state g c = λ s leads.
    let now = c.args.self.now in
    let first = subst (λ (k : HistoryView). LeadsTo k c.self.invariant.0.state) c.self.view_is c.self.invariant.0.leads in
    subst (IsNetState c.self.inside.net) (sym (one_state_after (network_of now.declared) (packets_of now.load) now.steps c.self.invariant.0.state s first leads)) c.self.invariant.0.in_net
