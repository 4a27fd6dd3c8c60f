use Rattle.sw_search.proofs.Determined.{determined}
use Rattle.sw_search.proofs.laws.verdicts_are_determined.Goals as goal

pub returns : goal.returns
returns c = determined
