use Rattle.std.proofs.Common.{false, subst, sym}
use Rattle.sw_run.proofs.Noted.{with_settled}
use Rattle.sw_run.proofs.run_journal.RunJournal.has_settled.Goals as goal
use Rattle.sw_run.specs.Notes.{AreTrueNotes}

pub invariant_of-self-clause-notes_are : goal.invariant_of-self-clause-notes_are
invariant_of-self-clause-notes_are g c =
    let self = c.args.self.now in
    subst (AreTrueNotes self.journal) (sym c.has_settled.ensures.asked) (with_settled self.journal self.notes self.notes_are false)
