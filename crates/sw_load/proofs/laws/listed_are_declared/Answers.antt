use Rattle.sw_load.proofs.Listed.{listed_are_declared}
use Rattle.sw_load.proofs.laws.listed_are_declared.Goals as goal

pub returns : goal.returns
returns c = listed_are_declared
