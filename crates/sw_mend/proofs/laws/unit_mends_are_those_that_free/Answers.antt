use Rattle.sw_mend.proofs.Determined.{unit_mends_are_those_that_free}
use Rattle.sw_mend.proofs.laws.unit_mends_are_those_that_free.Goals as goal

pub returns : goal.returns
returns c = unit_mends_are_those_that_free
