use Rattle.sw_flow.proofs.Faulty.{faultless_go_on}
use Rattle.sw_flow.proofs.laws.faultless_go_on.Goals as goal

pub returns : goal.returns
returns c = faultless_go_on
