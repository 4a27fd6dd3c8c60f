use Rattle.sw_explain.proofs.ExplainOnce.{targets_have_no_flows}
use Rattle.sw_explain.proofs.explain_value_laws.targets_have_no_flows.Goals as goal

pub returns : goal.returns
returns c = targets_have_no_flows
