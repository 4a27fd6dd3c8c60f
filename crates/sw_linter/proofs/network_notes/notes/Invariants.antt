use Rattle.std.proofs.Common.{◌≡◌, ◌++◌, map, take}
use Rattle.sw_linter.specs.Notes.{lint_note}
use Rattle.sw_linter.proofs.network_notes.notes.Given as goal

abbrev pub invariant-loop-lint : goal.invariant-loop-lint
invariant-loop-lint l = l.notes.items ≡ l.initial.notes.items ++ map (lint_note l.network) (take l.lint-index l.lint-items)
