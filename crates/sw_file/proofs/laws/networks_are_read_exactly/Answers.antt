use Rattle.sw_file.proofs.Documents.{networks_are_read_exactly}
use Rattle.sw_file.proofs.laws.networks_are_read_exactly.Goals as goal

pub returns : goal.returns
returns c = networks_are_read_exactly
