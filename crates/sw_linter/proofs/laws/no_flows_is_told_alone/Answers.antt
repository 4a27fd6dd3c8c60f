use Rattle.sw_linter.proofs.Lawful.{alone}
use Rattle.sw_linter.proofs.laws.no_flows_is_told_alone.Goals as goal

pub returns : goal.returns
returns c = alone
