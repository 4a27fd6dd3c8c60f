use Rattle.std.proofs.Common.{◌≡◌, ◌++◌, take}
use Rattle.sw_linter.specs.Lints.{made_of}
use Rattle.sw_linter.specs.Marks.{entry_lint_by}
use Rattle.sw_linter.proofs.entries.add_entries_of.Given as goal

abbrev pub invariant-loop-entry : goal.invariant-loop-entry
invariant-loop-entry l = l.lints.items ≡ l.initial.lints.items ++ made_of (entry_lint_by l.network l.marks l.slip l.switch) (take l.entry l.routes)
