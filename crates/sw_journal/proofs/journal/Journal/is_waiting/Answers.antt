use Rattle.std.proofs.Common.{false, subst, sym, true, ◌∙◌, ◌≡◌}
use Rattle.std.proofs.lemmas.Bool.{false≢true}
use Rattle.sw_config.specs.Valid.{IsValid}
use Rattle.sw_journal.proofs.Idle.{kept_back_by, waiting_by}
use Rattle.sw_journal.proofs.journal.Journal.is_waiting.Goals as goal
use Rattle.sw_journal.specs.Record.{JournalView}
use Rattle.sw_load.specs.History.{IsWhole, packets_of}
use Rattle.sw_load.specs.Laws.{AreDeclared}
use Rattle.sw_machine.specs.Model.{network_of}

pub returns-then-is_whole-clause-waiting : goal.returns-then-is_whole-clause-waiting
returns-then-is_whole-clause-waiting c =
    let whole = subst (λ (a : JournalView). IsWhole (network_of a.declared) (packets_of a.load) a.history) c.self.view_is (c.is_whole.ensures.0 c.if-is_whole.true) in
    ((λ no. absurd (let is : false ≡ true = no in cc)), (λ waiting. absurd (waiting.not_whole whole)))

pub returns-then-is_whole-clause-kept_back : goal.returns-then-is_whole-clause-kept_back
returns-then-is_whole-clause-kept_back c = λ no. absurd (let is : false ≡ true = no in cc)

pub returns-then-undelivered-ne0-clause-waiting : goal.returns-then-undelivered-ne0-clause-waiting
returns-then-undelivered-ne0-clause-waiting c =
    let is = c.undelivered.ensures.true_view in (
      (λ no. absurd (let is : false ≡ true = no in cc)),
      (λ waiting. absurd (c.if-undelivered-ne0.true (c.undelivered.ensures.count is.state is.history ∙ sym (waiting.delivered is.state is.history)))),
    )

pub returns-then-undelivered-ne0-clause-kept_back : goal.returns-then-undelivered-ne0-clause-kept_back
returns-then-undelivered-ne0-clause-kept_back c = λ no. absurd (let is : false ≡ true = no in cc)

pub returns-clause-waiting : goal.returns-clause-waiting
returns-clause-waiting c = (
  (λ still.
      waiting_by c.args.self.now c.undelivered.result c.undelivered.ensures.count c.if-undelivered-ne0.false
      (λ whole.
      let is = c.is_whole.ensures.1 (subst (λ (a : JournalView). IsWhole (network_of a.declared) (packets_of a.load) a.history) (sym c.self.view_is) whole) in
      false≢true (sym c.if-is_whole.false ∙ is))
      (c.is_still.ensures.0 still)),
  (λ waiting. c.is_still.ensures.1 waiting.still),
)

pub returns-clause-kept_back : goal.returns-clause-kept_back
returns-clause-kept_back c = λ still.
    let valid = subst (λ (a : JournalView). IsValid a.declared) c.self.view_is c.network-network.ensures.sound.valid in
    let declared = subst (λ (a : JournalView). AreDeclared a.declared a.load) c.self.view_is c.network-network.ensures.sound.packets in
    kept_back_by c.args.self.now valid declared c.undelivered.result c.undelivered.ensures.count c.if-undelivered-ne0.false (c.is_still.ensures.0 still)
