use Rattle.std.proofs.Common.{List, [], ap, append-nil, rules, sym, ◌∙◌, ◌≡◌}
use Rattle.std.proofs.lemmas.List.{take_all}
use Rattle.std.specs.List.{flat_map}
use Rattle.sw_machine.specs.Begun.{beginning}
use Rattle.sw_machine.specs.StepValues.{machine_step}
use Rattle.sw_machine.specs.declared.step.Step.{Step}
use Rattle.sw_summary.proofs.Lists.{beginnings_are, begins_nothing, made_more}
use Rattle.sw_summary.proofs.begun.beginnings.Goals as goal

pub loop-step-preserved-in_default : goal.loop-step-preserved-in_default
loop-step-preserved-in_default c =
    let none = sym (begins_nothing c.step-item.result c.in_default.not-Begin) in
    made_more (λ (step : Step). beginning (machine_step step)) c.args.steps.now c.loop-step.step-index c.step-item.result c.loop-step.all.items [] c.loop-step.all.items c.loop-step-test.true c.step-item.is
    c.loop-step.invariant none (sym (append-nil c.loop-step.all.items))

pub loop-step-preserved : goal.loop-step-preserved
loop-step-preserved c =
    made_more (λ (step : Step). beginning (machine_step step)) c.args.steps.now c.loop-step.step-index c.step-item.result c.loop-step.all.items _ c.push.new.self.items c.loop-step-test.true c.step-item.is
    c.loop-step.invariant (search rules) c.in_ok-push.ensures.items

pub returns : goal.returns
returns c =
    c.loop-step.invariant
    ∙ ap (λ (l : List Step). flat_map (λ step. beginning (machine_step step)) l) (take_all c.loop-step.step-index c.args.steps.now c.loop-step-test.false)
    ∙ beginnings_are c.args.steps.now
