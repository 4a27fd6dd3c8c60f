use Rattle.std.proofs.Common.{List, ap, map, ◌++◌, ◌∙◌}
use Rattle.std.proofs.lemmas.List.{take_all}
use Rattle.sw_linter.specs.Notes.{NoteView, lint_note}
use Rattle.sw_linter.specs.declared.lint.Lint.{Lint}
use Rattle.sw_linter.proofs.Ranges.{grown_map}
use Rattle.sw_linter.proofs.network_notes.notes.Goals as goal

pub loop-lint-preserved : goal.loop-lint-preserved
loop-lint-preserved c =
    grown_map (lint_note c.args.network.now) c.in_ok-notes.notes.items _ _ c.loop-lint.lint-index c.deref-lint-items.result.now c.lint-item.result c.loop-lint-test.true c.lint-item.is c.loop-lint.invariant
    c.in_ok-add_note.ensures

pub returns : goal.returns
returns c =
    let all = take_all c.loop-lint.lint-index c.deref-lint-items.result.now c.loop-lint-test.false ∙ c.deref-lint-items.ensures.value in
    let circling = c.in_ok-notes.ensures in
    record {
      circlings = circling.0;
      circling = circling.1;
      lints = c.in_ok-told.told.items;
      told = c.in_ok-told.ensures;
      worded =
          c.loop-lint.invariant
          ∙ ap (λ (lints : List Lint). c.in_ok-notes.notes.items ++ map (lint_note c.args.network.now) lints) all
          ∙ ap (λ (front : List NoteView). front ++ map (lint_note c.args.network.now) c.in_ok-told.told.items) circling.2;
    }
