use Rattle.sw_rmap.proofs.Parts.{way_back_is_in_header}
use Rattle.sw_rmap.proofs.laws.way_back_is_in_header.Goals as goal

pub returns : goal.returns
returns c = way_back_is_in_header
