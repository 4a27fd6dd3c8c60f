use Rattle.sw_witness.proofs.NoReply.{none_is_answered}
use Rattle.sw_witness.proofs.laws.none_is_answered.Goals as goal

pub returns : goal.returns
returns c = none_is_answered
