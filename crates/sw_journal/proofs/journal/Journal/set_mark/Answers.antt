use Rattle.std.proofs.Common.{subst, sym, rules, length, ◌≡◌}
use Rattle.sw_history.specs.Next.{IsIdle}
use Rattle.sw_journal.proofs.Idle.{kept_mark}
use Rattle.sw_journal.proofs.journal.Journal.set_mark.Goals as goal
use Rattle.sw_journal.specs.Record.{JournalView}
use Rattle.sw_load.specs.History.{packets_of}
use Rattle.sw_machine.specs.Model.{network_of}

pub invariant_of-self : goal.invariant_of-self
invariant_of-self c =
    let i = c.self.invariant in
    let idle = subst (λ (a : JournalView). IsIdle (network_of a.declared) (packets_of a.load) a.history c.args.end) (sym c.self.view_is) c.requires in
    let count : c.len-count.result ≡ length c.self.inside.history.steps = search rules in
    let place : c.number-place.result ≡ c.args.end = search rules in
    (kept_mark _ c.self.inside.seat.me c.args.end c.number-place.result c.len-count.result i.0 idle place count, i.1, i.2)
