use Rattle.sw_machine.proofs.laws.outputs_are_held_once.Goals as goal
use Rattle.sw_machine.proofs.Wormhole.{held_once}

pub returns : goal.returns
returns c = λ net ok s r. held_once net ok s r
