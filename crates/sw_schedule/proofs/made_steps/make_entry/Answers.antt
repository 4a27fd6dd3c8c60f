use Rattle.sw_machine.specs.StepValues.{machine_step}
use Rattle.sw_schedule.proofs.NetSteps.{again_so}
use Rattle.sw_schedule.proofs.made_steps.make_entry.Goals as goal

pub returns-clause-ends : goal.returns-clause-ends
returns-clause-ends c =
    again_so c.args.net.now c.make_times.new.net c.args.unanswered.now c.make_times.new.unanswered c.count.result c.args.entry.now.count (machine_step c.in_ok-step.step) c.args.entry.now.step c.make_times.result
    c.count.ensures c.in_ok-step.ensures c.make_times.ensures.ends
