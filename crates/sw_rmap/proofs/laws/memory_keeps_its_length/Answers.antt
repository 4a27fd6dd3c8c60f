use Rattle.sw_rmap.proofs.Answering.{memory_keeps_its_length}
use Rattle.sw_rmap.proofs.laws.memory_keeps_its_length.Goals as goal

pub returns : goal.returns
returns c = memory_keeps_its_length
