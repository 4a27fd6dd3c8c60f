use Rattle.sw_linter.proofs.Lawful.{lints_determined}
use Rattle.sw_linter.proofs.laws.lints_are_determined.Goals as goal

pub returns : goal.returns
returns c = lints_determined
