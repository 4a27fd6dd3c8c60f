use Rattle.std.proofs.Common.{◌≡◌, None}
use Rattle.std.specs.List.{range_with_len}
use Rattle.sw_linter.specs.Lints.{first_made}
use Rattle.sw_linter.specs.Marks.{note_at}
use Rattle.sw_linter.proofs.tables.first_noted.Given as goal

abbrev pub invariant-loop-step : goal.invariant-loop-step
invariant-loop-step l = first_made (note_at l.notes) (range_with_len l.from l.step) ≡ None
