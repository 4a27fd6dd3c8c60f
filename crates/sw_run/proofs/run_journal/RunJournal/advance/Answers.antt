use Rattle.std.proofs.Common.{Ok, Option, ap, arith, length, subst, ◌≡◌}
use Rattle.sw_journal.specs.Choices.{ChoosesOrMarks}
use Rattle.sw_journal.specs.Record.{JournalView}
use Rattle.sw_machine.specs.declared.step.Step.{Step}
use Rattle.sw_run.proofs.Noted.{noted_rest, places_are}
use Rattle.sw_run.proofs.run_journal.RunJournal.advance.Goals as goal

pub invariant_of-self-in-Ok-None-clause-notes_are : goal.invariant_of-self-in-Ok-None-clause-notes_are
invariant_of-self-in-Ok-None-clause-notes_are g c =
    let self = c.args.self.now in
    let k = c.choose_or_mark.new.self in
    let marked = (subst (λ (o : Option Step). ChoosesOrMarks self.journal c.in-Some.end (Ok o) k) c.in-Ok-None.field-0-is c.in-Ok-None.ensures).1 in
    let places = places_are k c.len-count.ensures.true_view in
    let same : length k.declared.links ≡ length self.journal.declared.links = ap (λ (v : JournalView). length v.declared.links) marked in
    noted_rest self.journal self.notes self.notes_are k c.in-Some.end c.len-count.ensures.true_view marked (omega (arith, places, same, c.in-Some.ensures.within)) c.in-Some.ensures.awake c.rest.new.self c.rest.result
    c.rest.ensures.rests
