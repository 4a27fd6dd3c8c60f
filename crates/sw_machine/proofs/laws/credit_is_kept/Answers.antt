use Rattle.sw_machine.proofs.laws.credit_is_kept.Goals as goal
use Rattle.sw_machine.proofs.Credit.{reached_numbers}

pub returns : goal.returns
returns c = λ net ok s r. reached_numbers net ok s r
