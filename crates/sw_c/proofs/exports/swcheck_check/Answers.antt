use Rattle.sw_c.proofs.Read.{check_given, ended_well, shown_two}
use Rattle.sw_c.proofs.exports.swcheck_check.Goals as goal

pub returns-clause-answer : goal.returns-clause-answer
returns-clause-answer c =
    let given = rw c.into_ended.ensures at c.give_ended.ensures in
    check_given _ _ _ _ _ _ _ c.new-text.ensures.items c.deref.ensures.value _ _ _ _ _ c.check-end.ensures.ended given

pub returns-clause-deadlock_free : goal.returns-clause-deadlock_free
returns-clause-deadlock_free c = λ zero.
    let given = rw c.into_ended.ensures at c.give_ended.ensures in
    let well = ended_well _ _ _ _ _ _ _ c.new-text.ensures.items c.deref.ensures.value _ given zero in
    shown_two _ _ _ _ (c.check-end.ensures.deadlock_free well)
