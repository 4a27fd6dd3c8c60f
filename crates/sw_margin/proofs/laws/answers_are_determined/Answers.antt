use Rattle.sw_margin.proofs.Lawful.{answers_are_determined}
use Rattle.sw_margin.proofs.laws.answers_are_determined.Goals as goal

pub returns : goal.returns
returns c = answers_are_determined
