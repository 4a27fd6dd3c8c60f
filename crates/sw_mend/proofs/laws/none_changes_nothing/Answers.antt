use Rattle.sw_mend.proofs.AfterAll.{none_made}
use Rattle.sw_mend.proofs.laws.none_changes_nothing.Goals as goal

pub returns : goal.returns
returns c = none_made
