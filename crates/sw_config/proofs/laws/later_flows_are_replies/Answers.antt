use Rattle.sw_config.proofs.FlowLaws.{are_replies}
use Rattle.sw_config.proofs.laws.later_flows_are_replies.Goals as goal

pub returns : goal.returns
returns c = are_replies
