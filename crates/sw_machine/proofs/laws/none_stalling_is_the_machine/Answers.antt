use Rattle.sw_machine.proofs.laws.none_stalling_is_the_machine.Goals as goal
use Rattle.sw_machine.proofs.Stalling.{none_stalling_is_the_machine}

pub returns : goal.returns
returns c = none_stalling_is_the_machine
