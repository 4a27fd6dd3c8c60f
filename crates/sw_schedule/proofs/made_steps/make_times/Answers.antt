use Rattle.std.proofs.Common.{Option, arith, replicate, subst, ℕ, ◌∙◌, ◌≡◌}
use Rattle.sw_machine.specs.StepValues.{machine_step}
use Rattle.sw_schedule.proofs.NetSteps.{made_again, refused_again}
use Rattle.sw_schedule.specs.Nets.{NetEnds, NetMakesOr}
use Rattle.sw_schedule.specs.declared.replayed.ReplayEnd.TheVariants.{Made}
use Rattle.sw_schedule.specs.declared.replayed.StepRefusal.{StepRefusal}
use Rattle.sw_schedule.proofs.made_steps.make_times.Goals as goal

pub returns-in-Some-clause-ends : goal.returns-in-Some-clause-ends
returns-in-Some-clause-ends c =
    let x = machine_step c.args.step.now in
    let before = c.loop-made.invariant in
    let makes = subst (λ (o : Option StepRefusal). NetMakesOr c.loop-made.net c.loop-made.unanswered x o c.make_step.new.net c.make_step.new.unanswered) c.in-Some.is c.in_ok-refusal.ensures.makes in
    refused_again c.args.net.now c.loop-made.net c.make_step.new.net c.args.unanswered.now c.loop-made.unanswered c.make_step.new.unanswered before.network x c.loop-made.made c.args.count c.in-Some.refusal
    c.loop-made-test.true before.made makes

pub loop-made-preserved : goal.loop-made-preserved
loop-made-preserved c =
    let x = machine_step c.args.step.now in
    let before = c.loop-made.invariant in
    let makes = subst (λ (o : Option StepRefusal). NetMakesOr c.loop-made.net c.loop-made.unanswered x o c.make_step.new.net c.make_step.new.unanswered) c.in-None.is c.in_ok-refusal.ensures.makes in
    record {
      network = c.in_ok-refusal.ensures.network ∙ before.network;
      made = made_again c.args.net.now c.loop-made.net c.make_step.new.net c.args.unanswered.now c.loop-made.unanswered c.make_step.new.unanswered before.network x c.loop-made.made before.made makes;
    }

pub returns-clause-ends : goal.returns-clause-ends
returns-clause-ends c =
    let is : c.loop-made.made ≡ c.args.count = omega (arith, c.loop-made-test.false, c.loop-made.auto.made-end) in
    subst (λ (n : ℕ). NetEnds c.args.net.now c.args.unanswered.now (replicate n (machine_step c.args.step.now)) (Made n) c.loop-made.net c.loop-made.unanswered) is c.loop-made.invariant.made
