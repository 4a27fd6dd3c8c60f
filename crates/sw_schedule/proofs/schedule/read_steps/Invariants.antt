use Rattle.std.proofs.Common.{◌≡◌, ◌+◌, ◌≤◌, [], length}
use Rattle.sw_schedule.specs.Schedule.{with_lines, text_lines}
use Rattle.sw_schedule.proofs.schedule.read_steps.Given as goal

abbrev pub invariant-loop-line : goal.invariant-loop-line
invariant-loop-line l = record {
  same : with_lines l.network 1 [] (text_lines l.text) ≡ with_lines l.network l.number l.schedule (text_lines l.rest);
  few : l.number + length l.rest ≤ length l.text + 1;
}

abbrev pub decreases-loop-line : goal.decreases-loop-line
decreases-loop-line l = length l.rest
