use Rattle.sw_machine.proofs.laws.rising_has_no_cycle.Goals as goal
use Rattle.sw_machine.proofs.Free.{rising_has_no_cycle}

pub returns : goal.returns
returns c = λ net number rises cycle h. rising_has_no_cycle net number rises cycle h
