use Rattle.sw_mend.proofs.SplitFlows.{splits_move_replies}
use Rattle.sw_mend.proofs.split_laws.splits_move_replies.Goals as goal

pub returns : goal.returns
returns c = splits_move_replies
