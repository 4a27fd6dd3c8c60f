use Rattle.sw_machine.proofs.laws.memory_is_of_packets.Goals as goal
use Rattle.sw_machine.proofs.Memory.{memory_is_of_packets}

pub returns : goal.returns
returns c = memory_is_of_packets
