use Rattle.std.proofs.Common.{ap, arith, length, subst}
use Rattle.std.specs.Prelude.{IfOk}
use Rattle.sw_journal.proofs.Chosen.{chosen}
use Rattle.sw_journal.proofs.journal.Journal.choose.Goals as goal
use Rattle.sw_journal.specs.Choices.{Chooses}
use Rattle.sw_journal.specs.Record.{JournalView}

pub choose-requires : goal.choose-requires
choose-requires c =
    let own = ap (λ (a : JournalView). length a.declared.links) c.self.view_is in
    let r = c.requires in
    omega (arith, own, r)

pub returns : goal.returns
returns c =
    let j = c.self.inside in
    subst (λ (a : JournalView). IfOk c.choose.result (λ o. Chooses a c.args.end o)) c.self.view_is
    (chosen j.table.shared.table_id j.history j.limit j.marks.items c.args.end c.choose.result c.choose.ensures.some c.choose.ensures.none)
