use Rattle.sw_app.specs.VerdictAnswers.{IsDecideAnswer}
use Rattle.sw_c.proofs.Read.{ended_well, given_one, shown_given}
use Rattle.sw_c.proofs.exports.swcheck_decide.Goals as goal

pub returns-clause-answer : goal.returns-clause-answer
returns-clause-answer c =
    let given = rw c.into_ended-ended.ensures at c.give_ended.ensures in
    given_one _ _ _ _ _ _ _ c.new-text.ensures.items c.deref.ensures.value IsDecideAnswer _ _ _ c.decide.ensures.ended given

pub returns-clause-deadlock_free : goal.returns-clause-deadlock_free
returns-clause-deadlock_free c = λ zero.
    let given = rw c.into_ended-ended.ensures at c.give_ended.ensures in
    let well = ended_well _ _ _ _ _ _ _ c.new-text.ensures.items c.deref.ensures.value _ given zero in
    shown_given _ _ _ _ _ _ _ c.new-text.ensures.items c.deref.ensures.value _ _ _ given zero (c.decide.ensures.deadlock_free well)
