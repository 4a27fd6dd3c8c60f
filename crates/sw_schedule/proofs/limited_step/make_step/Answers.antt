use Rattle.std.proofs.Common.{subst}
use Rattle.std.proofs.lemmas.Result.{IfOk-weaker}
use Rattle.sw_machine.specs.StepValues.{machine_step}
use Rattle.sw_schedule.proofs.LimitedSteps.{over_limit, step_made}
use Rattle.sw_schedule.specs.Nets.{NetMakesOr, TellsOverLimit, TellsWhy}
use Rattle.sw_schedule.proofs.limited_step.make_step.Goals as goal

pub returns-then-is_over_limit-clause-makes : goal.returns-then-is_over_limit-clause-makes
returns-then-is_over_limit-clause-makes c =
    let v = c.args.net.now in
    over_limit v c.args.unanswered.now (machine_step c.args.step.now) (subst (TellsOverLimit v c.args.unanswered.now (machine_step c.args.step.now)) c.if-is_over_limit.true c.is_over_limit.ensures)

pub returns-clause-makes : goal.returns-clause-makes
returns-clause-makes c =
    let v = c.args.net.now in
    let w = c.step.new.net in
    let step = machine_step c.args.step.now in
    let over = subst (TellsOverLimit v c.args.unanswered.now step) c.if-is_over_limit.false c.is_over_limit.ensures in
    IfOk-weaker c.refusal_of.result (TellsWhy c.step.result) (λ refusal. NetMakesOr v c.args.unanswered.now step refusal w c.step.new.self)
    (λ refusal why. step_made v w c.args.unanswered.now c.step.new.self step c.step.result refusal c.step.ensures.answers c.step.ensures.refused c.step.ensures.counted c.step.ensures.uncounted over why) c.refusal_of.ensures
