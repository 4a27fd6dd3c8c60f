use Rattle.std.proofs.Common.{◌≡◌, take}
use Rattle.std.specs.List.{flat_map}
use Rattle.sw_machine.specs.Begun.{beginning}
use Rattle.sw_machine.specs.StepValues.{machine_step}
use Rattle.sw_summary.proofs.begun.beginnings.Given as goal

abbrev pub invariant-loop-step : goal.invariant-loop-step
invariant-loop-step l = l.all.items ≡ flat_map (λ step. beginning (machine_step step)) (take l.step-index l.steps)
