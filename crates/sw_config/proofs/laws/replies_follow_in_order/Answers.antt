use Rattle.sw_config.proofs.FlowLaws.{follow_in_order}
use Rattle.sw_config.proofs.laws.replies_follow_in_order.Goals as goal

pub returns : goal.returns
returns c = follow_in_order
