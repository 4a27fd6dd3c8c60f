use Rattle.sw_rmap.proofs.Answering.{write_then_read}
use Rattle.sw_rmap.proofs.laws.write_then_read.Goals as goal

pub returns : goal.returns
returns c = write_then_read
