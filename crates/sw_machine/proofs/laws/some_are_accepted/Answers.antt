use Rattle.sw_machine.proofs.laws.some_are_accepted.Goals as goal
use Rattle.sw_machine.proofs.Sample.{misrouted_is_network, of_capacity_is_network, sample_is_accepted}

pub returns : goal.returns
returns c = record { network = of_capacity_is_network; misrouted = misrouted_is_network; accepted = sample_is_accepted }
