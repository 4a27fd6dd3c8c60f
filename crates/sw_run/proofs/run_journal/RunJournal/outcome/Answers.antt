use Rattle.std.proofs.Common.{ap, length, map, subst, sym, ◌∙◌}
use Rattle.sw_config.specs.Entries.{Declaration}
use Rattle.sw_run.proofs.Ended.{by_journal, of_run}
use Rattle.sw_run.proofs.run_journal.RunJournal.outcome.Goals as goal
use Rattle.sw_run.specs.Ends.{AreOutBy}

pub returns-in-Ok : goal.returns-in-Ok
returns-in-Ok g c =
    let self = c.args.self in
    let j = self.journal in
    let W = g.W.RunIdentity in
    let nodes = c.nodes.ensures.count ∙ ap (λ (d : Declaration). length d.nodes) (self.network_is ∙ sym self.identity_is.1) in
    let left = c.undelivered-undelivered.ensures in
    let out = subst (λ n. AreOutBy j n (map (λ packets. packets.items) c.in-Ok.came_out.items)) nodes c.in-Ok.ensures in
    of_run j W.declared W.load W.limit _ self.identity_is.1 self.identity_is.2 self.identity_is.3
    (by_journal j left.true_view.state _ left.true_view.history left.true_view.within c.into_history-history.ensures.steps c.why-stop.ensures.ends out left.count)
