use Rattle.std.proofs.Common.{IsTrue, ap, arith, length, refl, subst, ◌*◌, ◌≤◌, ◌↔◌}
use Rattle.sw_history.specs.Next.{IsIdle}
use Rattle.sw_journal.proofs.Idle.{beyond_idle}
use Rattle.sw_journal.proofs.journal.Journal.is_idle.Goals as goal
use Rattle.sw_journal.specs.Record.{JournalView}
use Rattle.sw_load.specs.History.{packets_of}
use Rattle.sw_machine.specs.Model.{network_of}
use Rattle.sw_config.specs.Entries.{Declaration}

pub returns-then-number-channels : goal.returns-then-number-channels
returns-then-number-channels c =
    let i = c.self.invariant.0 in
    let h = c.self.inside.history in
    let links = ap (λ (d : Declaration). length d.links) c.network.ensures.network in
    let count = c.channels.ensures.count in
    let number = c.number.ensures in
    let test = c.if-number-channels.true in
    let past : 2 * length h.declared.links ≤ c.args.end = omega (arith, links, count, number, test) in
    let idle = beyond_idle (network_of h.declared) i.true_view.network (packets_of h.load) h.steps c.args.end (2 * length h.declared.links) i.channels past in (
      (λ _. subst (λ (a : JournalView). IsIdle (network_of a.declared) (packets_of a.load) a.history c.args.end) c.self.view_is idle),
      (λ _. refl),
    )

pub returns : goal.returns
returns c = subst (λ (a : JournalView). IsTrue c.is_idle.result ↔ IsIdle (network_of a.declared) (packets_of a.load) a.history c.args.end) c.self.view_is c.is_idle.ensures
