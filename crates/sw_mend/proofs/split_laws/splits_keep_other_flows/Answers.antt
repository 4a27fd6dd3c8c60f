use Rattle.sw_mend.proofs.SplitFlows.{splits_keep_other_flows}
use Rattle.sw_mend.proofs.split_laws.splits_keep_other_flows.Goals as goal

pub returns : goal.returns
returns c = splits_keep_other_flows
