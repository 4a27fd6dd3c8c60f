use Rattle.sw_machine.proofs.laws.accepted_is_deadlock_free.Goals as goal
use Rattle.sw_machine.proofs.Free.{is_free}

pub returns : goal.returns
returns c = λ net cert ok acc. is_free net cert ok acc
