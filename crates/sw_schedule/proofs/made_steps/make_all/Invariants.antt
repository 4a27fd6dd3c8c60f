use Rattle.std.proofs.Common.{length, take, ◌≡◌, ◌≤◌}
use Rattle.sw_schedule.specs.Nets.{NetEnds}
use Rattle.sw_schedule.specs.declared.replayed.ReplayEnd.TheVariants.{Made}
use Rattle.sw_schedule.specs.Schedule.{steps_of}
use Rattle.sw_schedule.proofs.made_steps.make_all.Given as goal

abbrev pub invariant-loop-entry : goal.invariant-loop-entry
invariant-loop-entry l = record {
  network : l.net.declared ≡ l.initial.net.declared;
  made : NetEnds l.initial.net l.initial.unanswered (steps_of (take l.entry-index l.entries)) (Made l.before) l.net l.unanswered;
  within : l.before ≤ length (steps_of (take l.entry-index l.entries));
}
