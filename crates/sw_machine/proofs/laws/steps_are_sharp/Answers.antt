use Rattle.sw_machine.proofs.laws.steps_are_sharp.Goals as goal
use Rattle.sw_machine.proofs.Witnesses.{is_answered, is_discarded, is_dropped, one_fct, seven_fcts}

pub returns : goal.returns
returns c = record { seven = seven_fcts; one = one_fct; discarded = is_discarded; dropped = is_dropped; answered = is_answered }
