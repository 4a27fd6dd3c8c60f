use Rattle.std.proofs.Common.{◌∙◌}
use Rattle.sw_app.specs.CheckTexts.{refusal_words}
use Rattle.sw_json_verdicts.proofs.CheckFound.{known_refusal}
use Rattle.sw_json_verdicts.specs.CheckResults.{reason_of}
use Rattle.sw_json_verdicts.proofs.check_values.outcome_of_refusal.Goals as goal

pub returns : goal.returns
returns c =
    known_refusal _ (reason_of c.args.network.now c.args.refusal) _ (refusal_words c.args.network.now c.args.refusal) c.refusal_outcome.result c.parts_of-parts.ensures
    (c.as_str.ensures.value ∙ c.in_ok-text.ensures) c.refusal_outcome.ensures
