use Rattle.sw_mend.proofs.Determined.{mends_are_those_that_free}
use Rattle.sw_mend.proofs.laws.mends_are_those_that_free.Goals as goal

pub returns : goal.returns
returns c = mends_are_those_that_free
