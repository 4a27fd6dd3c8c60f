use Rattle.std.proofs.Common.{ap, refl, sym, ◌∙◌}
use Rattle.std.specs.Prelude.{◌==◌}
use Rattle.std.proofs.lemmas.Bool.{false≢true}
use Rattle.sw_json_verdicts.proofs.findings.verdict_judged.Goals as goal

pub returns-then-not-options : goal.returns-then-not-options
returns-then-not-options g c = (
  record {
    verdict = c.args.verdict.now;
    found = c.requires;
    status = c.in_ok-status.ensures;
    word = c.verdict_word-word.ensures;
    object = λ told. absurd (false≢true (sym c.if-not-options.true ∙ told));
    flowless = ap (λ n. n == 0) c.declared_flows-flowless.ensures.count;
  },
  refl,
)

pub returns : goal.returns
returns g c = (
  record {
    verdict = c.args.verdict.now;
    found = c.requires;
    status = c.in_ok-status.ensures;
    word = c.verdict_word-word.ensures;
    object = λ told. c.in_ok-entry.ensures;
    flowless = ap (λ n. n == 0) c.declared_flows-flowless.ensures.count;
  },
  refl,
)
