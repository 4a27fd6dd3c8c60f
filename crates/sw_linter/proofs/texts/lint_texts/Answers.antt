use Rattle.std.proofs.Common.{Global, List, String, ap, map, string_bytes, ◌++◌, ◌∙◌, ℕ}
use Rattle.std.proofs.lemmas.List.{take_all}
use Rattle.sw_linter.specs.CirclingTexts.{circling_text}
use Rattle.sw_linter.specs.LintTexts.{lint_text}
use Rattle.sw_linter.specs.declared.lint.Lint.{Lint}
use Rattle.sw_linter.proofs.Ranges.{grown_map}
use Rattle.sw_linter.proofs.texts.lint_texts.Goals as goal

pub loop-lint-preserved : goal.loop-lint-preserved
loop-lint-preserved c =
    grown_map (lint_text c.args.network.now) (map string_bytes c.add_circlings.new.texts.items) _ _ c.loop-lint.lint-index c.deref-lint-items.result.now c.lint-item.result c.loop-lint-test.true c.lint-item.is c.loop-lint.invariant
    c.in_ok-add_text.ensures

pub returns : goal.returns
returns c =
    let all = take_all c.loop-lint.lint-index c.deref-lint-items.result.now c.loop-lint-test.false ∙ c.deref-lint-items.ensures.value in
    let added = c.in_ok-add_circlings.ensures in
    record {
      circlings = added.0;
      circling = added.1;
      lints = c.in_ok-told.told.items;
      told = c.in_ok-told.ensures;
      worded =
          c.loop-lint.invariant
          ∙ ap (λ (lints : List Lint). map string_bytes c.add_circlings.new.texts.items ++ map (lint_text c.args.network.now) lints) all
          ∙ ap (λ (front : List (List ℕ)). front ++ map (lint_text c.args.network.now) c.in_ok-told.told.items) added.2
          ∙ ap (λ (old : List (String Global)). (map string_bytes old ++ map (circling_text c.args.network.now) added.0) ++ map (lint_text c.args.network.now) c.in_ok-told.told.items) c.new-texts.ensures.items;
    }
