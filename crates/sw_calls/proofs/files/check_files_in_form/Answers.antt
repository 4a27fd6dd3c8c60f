use Rattle.sw_app.specs.CheckAnswers.{IsCheckFinding}
use Rattle.sw_engine.specs.Files.{second_given}
use Rattle.sw_engine.proofs.Paths.{ends_by_paths, files_given}
use Rattle.sw_calls.proofs.Unread.{unread_has_none, unread_holds, unread_told, unread_two_end}
use Rattle.sw_calls.proofs.files.check_files_in_form.Goals as goal

pub returns-in_default-clause-read : goal.returns-in_default-clause-read
returns-in_default-clause-read g c = unread_two_end _ _ _ _ _ _ _ _ c.of_unread.ensures.file c.of_unread.ensures.ended

pub returns-in_default-open-clause-read : goal.returns-in_default-open-clause-read
returns-in_default-open-clause-read g c =
    unread_two_end _ _ _ _ _ _ _ _ c.of_unread-in_default-open.ensures.file c.of_unread-in_default-open.ensures.ended

pub returns-in_default-clause-found : goal.returns-in_default-clause-found
returns-in_default-clause-found g c = unread_holds (IsCheckFinding (second_given c.of_unread.result.second)) _ _ c.of_unread.ensures.file

pub returns-in_default-open-clause-found : goal.returns-in_default-open-clause-found
returns-in_default-open-clause-found g c =
    unread_holds (IsCheckFinding (second_given c.of_unread-in_default-open.result.second)) _ _ c.of_unread-in_default-open.ensures.file

pub returns-in_default-clause-told : goal.returns-in_default-clause-told
returns-in_default-clause-told g c = unread_told _ _ _ _ _ c.of_unread.ensures.file c.of_unread.ensures.ended

pub returns-in_default-open-clause-told : goal.returns-in_default-open-clause-told
returns-in_default-open-clause-told g c =
    unread_told _ _ _ _ _ c.of_unread-in_default-open.ensures.file c.of_unread-in_default-open.ensures.ended

pub returns-in_default-clause-deadlock_free : goal.returns-in_default-clause-deadlock_free
returns-in_default-clause-deadlock_free g c = λ is. unread_has_none _ c.of_unread.ensures.ended is

pub returns-in_default-open-clause-deadlock_free : goal.returns-in_default-open-clause-deadlock_free
returns-in_default-open-clause-deadlock_free g c = λ is. unread_has_none _ c.of_unread-in_default-open.ensures.ended is

pub returns-clause-read : goal.returns-clause-read
returns-clause-read g c = (
  ends_by_paths _ _ _ _ _ _ c.in-Some.ensures c.in-Some-open.ensures _ _ _ _ _ c.check.ensures.ended,
  files_given _ _ _ _ _ _ c.in-Some.ensures c.in-Some-open.ensures _ _ c.check.ensures.read,
)

pub returns-clause-deadlock_free : goal.returns-clause-deadlock_free
returns-clause-deadlock_free g c = λ free.
    let it = c.check.ensures.deadlock_free free in
    (it.0, c.in-Some.ensures.whole _ it.0 it.1, (it.2.0, c.in-Some-open.ensures.whole _ it.2.0 it.2.1, it.2.2))
