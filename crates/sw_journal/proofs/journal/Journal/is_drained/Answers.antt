use Rattle.std.proofs.Common.{subst, sym, true, ◌≡◌}
use Rattle.sw_journal.proofs.journal.Journal.is_drained.Goals as goal
use Rattle.sw_journal.specs.Record.{JournalView}
use Rattle.sw_load.specs.History.{IsWhole, packets_of}
use Rattle.sw_machine.specs.Model.{network_of}

pub returns-else-is_whole : goal.returns-else-is_whole
returns-else-is_whole c =
    let none = c.if-is_whole.false in (
      (λ whole. absurd (let is : c.is_whole.result ≡ true = whole in cc)),
      (λ drained. c.is_whole.ensures.1 (subst (λ (a : JournalView). IsWhole (network_of a.declared) (packets_of a.load) a.history) (sym c.self.view_is) drained.whole)),
    )
