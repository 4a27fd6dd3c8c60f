use Rattle.sw_rmap.proofs.Parts.{read_is_written}
use Rattle.sw_rmap.proofs.laws.read_is_written.Goals as goal

pub returns : goal.returns
returns c = read_is_written
