use Rattle.sw_mend.proofs.AfterAll.{one_alone}
use Rattle.sw_mend.proofs.laws.one_alone_is_a_change.Goals as goal

pub returns : goal.returns
returns c = one_alone
