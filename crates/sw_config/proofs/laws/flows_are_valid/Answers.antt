use Rattle.sw_config.proofs.FlowLaws.{valid_flows}
use Rattle.sw_config.proofs.laws.flows_are_valid.Goals as goal

pub returns : goal.returns
returns c = valid_flows
