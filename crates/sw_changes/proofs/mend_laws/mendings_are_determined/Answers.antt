use Rattle.sw_changes.proofs.OneMending.{one_mending}
use Rattle.sw_changes.proofs.mend_laws.mendings_are_determined.Goals as goal

pub returns : goal.returns
returns c = one_mending c.limitings_are_the_first_that_free.ensures.determined c.mends_are_determined.ensures c.unit_mends_are_determined.ensures c.pairs_are_determined.ensures c.verdicts_are_determined.ensures
