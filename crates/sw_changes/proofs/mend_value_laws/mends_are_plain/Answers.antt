use Rattle.sw_changes.proofs.MendPlain.{mending_plain}
use Rattle.sw_changes.proofs.mend_value_laws.mends_are_plain.Goals as goal

pub returns : goal.returns
returns c = mending_plain
