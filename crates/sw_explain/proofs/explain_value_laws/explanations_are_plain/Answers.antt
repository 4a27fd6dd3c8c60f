use Rattle.sw_explain.proofs.ExplainPlain.{explain_plain}
use Rattle.sw_explain.proofs.explain_value_laws.explanations_are_plain.Goals as goal

pub returns : goal.returns
returns c = explain_plain c.places_are_plain.ensures
