use Rattle.std.proofs.Common.{map, take}
use Rattle.sw_machine.specs.StepValues.{machine_step}
use Rattle.sw_summary.proofs.SoFar.{IsSoFar}
use Rattle.sw_summary.proofs.fills.noted_fills.Given as goal

abbrev pub invariant-loop-step : goal.invariant-loop-step
invariant-loop-step l = IsSoFar l.network l.net (map machine_step (take l.step-index l.steps)) l.fills.items
