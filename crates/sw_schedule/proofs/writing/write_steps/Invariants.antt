use Rattle.std.proofs.Common.{drop, map, string_bytes}
use Rattle.sw_machine.specs.StepValues.{machine_step}
use Rattle.sw_schedule.specs.Runs.{schedule_text}
use Rattle.sw_schedule.proofs.TextSoFar.{IsBegun, text_from}
use Rattle.sw_schedule.proofs.writing.write_steps.Given as goal

abbrev pub invariant-loop-step : goal.invariant-loop-step
invariant-loop-step l =
    IsBegun (string_bytes l.text) (text_from l.network l.last l.count (drop l.step-index l.rest)) (schedule_text l.network (map machine_step l.steps)) l.count
