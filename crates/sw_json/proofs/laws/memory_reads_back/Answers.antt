use Rattle.sw_json.proofs.Memory.{memory_reads_back}
use Rattle.sw_json.proofs.laws.memory_reads_back.Goals as goal

pub returns : goal.returns
returns c = memory_reads_back
