use Rattle.sw_explain.proofs.ExplainOnce.{explain_has_one_status}
use Rattle.sw_explain.proofs.explain_value_laws.explain_has_one_status.Goals as goal

pub returns : goal.returns
returns c = explain_has_one_status c.explanations_are_of_the_verdict.ensures c.tangles_are_where_cycles_are.ensures
