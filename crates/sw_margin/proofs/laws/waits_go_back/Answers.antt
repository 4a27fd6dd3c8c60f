use Rattle.sw_margin.proofs.Back.{waits_go_back}
use Rattle.sw_margin.proofs.laws.waits_go_back.Goals as goal

pub returns : goal.returns
returns c = waits_go_back
