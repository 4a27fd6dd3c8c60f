use Rattle.sw_mend.proofs.SplitFlows.{splits_keep_channels}
use Rattle.sw_mend.proofs.split_laws.splits_keep_channels.Goals as goal

pub returns : goal.returns
returns c = splits_keep_channels
