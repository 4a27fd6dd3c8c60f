use Rattle.sw_explain.proofs.ExplainOnce.{explain_has_one_answer}
use Rattle.sw_explain.proofs.explain_value_laws.explain_has_one_answer.Goals as goal

pub returns : goal.returns
returns c = explain_has_one_answer c.explanations_are_of_the_verdict.ensures c.tangles_are_where_cycles_are.ensures
