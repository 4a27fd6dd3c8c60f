use Rattle.std.proofs.Common.{ap, Err}
use Rattle.sw_app.specs.MigrateAnswers.{IsMigrateAnswer}
use Rattle.sw_text.proofs.Endings.{answered, told_unread}
use Rattle.sw_app.proofs.migrate_engine.migrate.Goals as goal

pub returns-in-Err-clause-ended : goal.returns-in-Err-clause-ended
returns-in-Err-clause-ended g c =
    rw c.from_ended.ensures.ended (told_unread IsMigrateAnswer _ _ _ _ _ _ (λ long. c.in-Err.ensures.long (ap Err long)) c.tell_unread.ensures)

pub returns-in-Some-clause-ended : goal.returns-in-Some-clause-ended
returns-in-Some-clause-ended g c =
    answered IsMigrateAnswer _ _ _ _ _ c.deref.result.now c.migrate_answer-answer.result.0 (rw c.deref.ensures.value c.in-Ok.ensures.given) c.in-Ok.ensures.end
    (rw c.deref.ensures.value c.in-Ok.ensures.within) c.migrate_answer-answer.ensures.answer c.tell_answer-ended.ensures

pub returns-in-None-clause-ended : goal.returns-in-None-clause-ended
returns-in-None-clause-ended g c =
    rw c.from_ended-in-None.ensures.ended
    (answered IsMigrateAnswer _ _ _ _ _ c.deref.result.now c.migrate_answer-answer.result.0 (rw c.deref.ensures.value c.in-Ok.ensures.given) c.in-Ok.ensures.end
    (rw c.deref.ensures.value c.in-Ok.ensures.within) c.migrate_answer-answer.ensures.answer c.tell_answer-ended.ensures)
