use Rattle.sw_mend.proofs.Determined.{pairs_are_those_that_free}
use Rattle.sw_mend.proofs.laws.pairs_are_those_that_free.Goals as goal

pub returns : goal.returns
returns c = pairs_are_those_that_free
