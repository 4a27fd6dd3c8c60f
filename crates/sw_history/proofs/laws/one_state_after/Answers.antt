use Rattle.sw_history.proofs.Follows.{one_state_after}
use Rattle.sw_history.proofs.laws.one_state_after.Goals as goal

pub returns : goal.returns
returns c = one_state_after
