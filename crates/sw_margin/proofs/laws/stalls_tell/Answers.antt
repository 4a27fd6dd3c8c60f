use Rattle.sw_margin.proofs.Tellings.{stalls_tell}
use Rattle.sw_margin.proofs.laws.stalls_tell.Goals as goal

pub returns : goal.returns
returns c = stalls_tell
