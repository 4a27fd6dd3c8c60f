use Rattle.std.proofs.Common.{map, take, ◌≡◌}
use Rattle.sw_history.proofs.record.steps_of.Given as goal
use Rattle.sw_history.specs.Noted.{noted_step}
use Rattle.sw_machine.specs.StepValues.{machine_step}

abbrev pub invariant-loop-note : goal.invariant-loop-note
invariant-loop-note l = map machine_step l.all.items ≡ map (noted_step l.senders) (take l.note-index l.notes)
