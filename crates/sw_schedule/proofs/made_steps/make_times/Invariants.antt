use Rattle.std.proofs.Common.{replicate, ◌≡◌}
use Rattle.sw_schedule.specs.Nets.{NetEnds}
use Rattle.sw_schedule.specs.declared.replayed.ReplayEnd.TheVariants.{Made}
use Rattle.sw_machine.specs.StepValues.{machine_step}
use Rattle.sw_schedule.proofs.made_steps.make_times.Given as goal

abbrev pub invariant-loop-made : goal.invariant-loop-made
invariant-loop-made l = record {
  network : l.net.declared ≡ l.initial.net.declared;
  made : NetEnds l.initial.net l.initial.unanswered (replicate l.made (machine_step l.step)) (Made l.made) l.net l.unanswered;
}
