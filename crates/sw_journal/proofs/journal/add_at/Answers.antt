use Rattle.std.proofs.Common.{Err, subst}
use Rattle.sw_history.specs.History.{Adds}
use Rattle.sw_history.specs.declared.fault.StepFault.{StepFault}
use Rattle.sw_journal.proofs.Commit.{next_in, next_of, steps_more, steps_same}
use Rattle.sw_journal.proofs.journal.add_at.Goals as goal
use Rattle.sw_machine.specs.StepValues.{machine_step}

pub returns-in-Err : goal.returns-in-Err
returns-in-Err c = record { adds = c.in-Err.ensures }

pub add-requires : goal.add-requires
add-requires c = (c.in_default.ensures).2

pub returns-in-Ok : goal.returns-in-Ok
returns-in-Ok c =
    let h = c.args.history.now in
    let step = machine_step c.args.step in
    let room = c.in_default.ensures in
    let made = c.in-Ok.ensures in
    record { adds = ((room.0, next_of h c.make_room.new.history room.3 step made.0), room.1, steps_more h c.make_room.new.history room.3 step c.add.new.self _ made.1) }

pub returns-in-Err-Memory : goal.returns-in-Err-Memory
returns-in-Err-Memory c =
    let h = c.args.history.now in
    let k = c.make_room.new.history in
    let step = machine_step c.args.step in
    let room = c.in_default.ensures in
    let kept = subst (λ (e : StepFault). Adds k step (Err e) c.add.new.self) c.in-Err-Memory.field-0-is (c.in-Err-Memory.ensures) in
    record { adds = ((room.0, next_of h k room.3 step kept.0), room.1, steps_same h k room.3 step c.add.new.self kept.1) }

pub returns-in-Err-NotEnabled : goal.returns-in-Err-NotEnabled
returns-in-Err-NotEnabled c =
    let h = c.args.history.now in
    let k = c.make_room.new.history in
    let step = machine_step c.args.step in
    let room = c.in_default.ensures in
    let kept = subst (λ (e : StepFault). Adds k step (Err e) c.add.new.self) c.in-Err-NotEnabled.field-0-is (c.in-Err-NotEnabled.ensures) in
    record { adds = ((λ next. kept.0 (next_in h k room.3 step next.1)), steps_same h k room.3 step c.add.new.self kept.1) }
