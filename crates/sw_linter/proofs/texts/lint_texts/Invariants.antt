use Rattle.std.proofs.Common.{◌≡◌, ◌++◌, map, string_bytes, take}
use Rattle.sw_linter.specs.LintTexts.{lint_text}
use Rattle.sw_linter.proofs.texts.lint_texts.Given as goal

abbrev pub invariant-loop-lint : goal.invariant-loop-lint
invariant-loop-lint l = map string_bytes l.texts.items ≡ map string_bytes l.initial.texts.items ++ map (lint_text l.network) (take l.lint-index l.lint-items)
