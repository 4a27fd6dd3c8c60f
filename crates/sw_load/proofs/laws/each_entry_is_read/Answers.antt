use Rattle.sw_load.proofs.Listed.{reads_each_entry}
use Rattle.sw_load.proofs.laws.each_entry_is_read.Goals as goal

pub returns : goal.returns
returns c = reads_each_entry
