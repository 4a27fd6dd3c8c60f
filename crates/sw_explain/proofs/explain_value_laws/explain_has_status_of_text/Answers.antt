use Rattle.sw_explain.proofs.ExplainOnce.{explain_has_status_of_text}
use Rattle.sw_explain.proofs.explain_value_laws.explain_has_status_of_text.Goals as goal

pub returns : goal.returns
returns c = explain_has_status_of_text c.explanations_are_of_the_verdict.ensures c.tangles_are_where_cycles_are.ensures
