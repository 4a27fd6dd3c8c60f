use Rattle.sw_app.specs.VerdictAnswers.{IsDecideAnswer, IsDecideFinding}
use Rattle.sw_engine.proofs.Paths.{ends_by_path, file_given}
use Rattle.sw_calls.proofs.Unread.{unread_ends, unread_has_none, unread_holds, unread_told}
use Rattle.sw_calls.proofs.files.decide_file.Goals as goal

pub returns-in_default-clause-read : goal.returns-in_default-clause-read
returns-in_default-clause-read g c = unread_ends _ IsDecideAnswer _ _ _ c.of_unread.ensures.file c.of_unread.ensures.ended

pub returns-in_default-clause-found : goal.returns-in_default-clause-found
returns-in_default-clause-found g c = unread_holds IsDecideFinding _ _ c.of_unread.ensures.file

pub returns-in_default-clause-told : goal.returns-in_default-clause-told
returns-in_default-clause-told g c = unread_told _ _ _ _ _ c.of_unread.ensures.file c.of_unread.ensures.ended

pub returns-in_default-clause-deadlock_free : goal.returns-in_default-clause-deadlock_free
returns-in_default-clause-deadlock_free g c = λ is. unread_has_none _ c.of_unread.ensures.ended is

pub returns-clause-read : goal.returns-clause-read
returns-clause-read g c =
    (ends_by_path _ _ _ c.in-Some.ensures IsDecideAnswer _ _ _ c.decide.ensures.ended, file_given _ _ _ c.in-Some.ensures _ c.decide.ensures.read)

pub returns-clause-deadlock_free : goal.returns-clause-deadlock_free
returns-clause-deadlock_free g c = λ free.
    let it = c.decide.ensures.deadlock_free free in
    (it.0, c.in-Some.ensures.whole _ it.0 it.1, it.2)
