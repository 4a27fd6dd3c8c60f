use Rattle.sw_machine.proofs.laws.steps_are_determined.Goals as goal
use Rattle.sw_machine.proofs.Determined.{determined}
use Rattle.sw_machine.proofs.Tries.{tried, tries}

pub returns : goal.returns
returns c = record { determined = λ net s step t u h i. determined net s step t u h i; tried = λ net s step t. (tried net s step t, tries net s step t) }
