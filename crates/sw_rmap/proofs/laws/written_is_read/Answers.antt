use Rattle.sw_rmap.proofs.Parts.{written_is_read}
use Rattle.sw_rmap.proofs.laws.written_is_read.Goals as goal

pub returns : goal.returns
returns c = written_is_read
