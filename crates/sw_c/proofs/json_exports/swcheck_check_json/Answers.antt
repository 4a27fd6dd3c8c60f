use Rattle.std.specs.Prelude.{codes}
use Rattle.sw_c.specs.Objects.{this}
use Rattle.sw_c.proofs.Read.{check_object_given, object_ended_well, shown_two}
use Rattle.sw_c.proofs.json_exports.swcheck_check_json.Goals as goal

pub returns-clause-answer : goal.returns-clause-answer
returns-clause-answer c =
    let given = rw c.into_ended.ensures at c.give_object.ensures in
    check_object_given _ _ _ _ _ _ _ c.new-text.ensures.items c.deref.ensures.value (codes "network") (codes "certificate") this _ _ _ _ _
    c.check-end.ensures.ended given

pub returns-clause-deadlock_free : goal.returns-clause-deadlock_free
returns-clause-deadlock_free c = λ zero.
    let given = rw c.into_ended.ensures at c.give_object.ensures in
    let well = object_ended_well _ _ _ _ _ _ _ c.new-text.ensures.items c.deref.ensures.value _ given zero in
    shown_two _ _ _ _ (c.check-end.ensures.deadlock_free well)
