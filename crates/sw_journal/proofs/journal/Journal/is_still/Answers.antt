use Rattle.std.proofs.Common.{ap, arith, false, length, refl, rules, subst, true, ◌*◌, ◌≡◌, ◌≤◌}
use Rattle.sw_journal.proofs.Idle.{all_still}
use Rattle.sw_journal.proofs.journal.Journal.is_still.Goals as goal
use Rattle.sw_journal.specs.Record.{JournalView}
use Rattle.sw_load.specs.History.{packets_of}
use Rattle.sw_machine.specs.Network.{IsNetwork}
use Rattle.sw_machine.specs.Model.{network_of}
use Rattle.sw_config.specs.Entries.{Declaration}

pub returns-then-not-is_idle : goal.returns-then-not-is_idle
returns-then-not-is_idle c =
    let none : c.is_idle.result ≡ false = search rules in (
      (λ no. absurd (let is : false ≡ true = no in cc)),
      (λ still. let is : c.is_idle.result ≡ true = c.is_idle.ensures.1 (λ step at may. still step may) in absurd cc),
    )

pub returns : goal.returns
returns c =
    let i = c.self.invariant.0 in
    let a = c.args.self.now in
    let ok = subst (λ (k : JournalView). IsNetwork (network_of k.declared)) c.self.view_is i.true_view.network in
    let channels = subst (λ (k : JournalView). (network_of k.declared).channels ≡ 2 * length k.declared.links) c.self.view_is i.channels in
    let own = ap (λ (k : JournalView). length k.declared.links) c.self.view_is in
    let links = ap (λ (d : Declaration). length d.links) c.network.ensures.network in
    let count = c.channels-number-end.ensures.count in
    let test = c.loop-number-test.false in
    let most : (network_of a.declared).channels ≤ c.loop-number.number = omega (arith, channels, own, links, count, test) in
    ((λ _. all_still (network_of a.declared) ok (packets_of a.load) a.history c.loop-number.number most c.loop-number.invariant), (λ _. refl))
