use Rattle.std.proofs.Common.{◌∙◌}
use Rattle.sw_app.specs.CheckTexts.{grammar_words}
use Rattle.sw_json_verdicts.proofs.CheckFound.{known_refusal}
use Rattle.sw_json_verdicts.specs.CheckResults.{grammar_reason}
use Rattle.sw_json_verdicts.proofs.check_values.outcome_of_wrong_line.Goals as goal

pub returns : goal.returns
returns c =
    known_refusal _ (grammar_reason c.args.number) _ (grammar_words c.args.number) c.refusal_outcome.result c.grammar_parts.ensures
    (c.as_str.ensures.value ∙ c.in_ok-text.ensures) c.refusal_outcome.ensures
