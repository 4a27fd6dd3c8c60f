use Rattle.sw_output.proofs.Sums.{tallies_count}
use Rattle.sw_output.proofs.laws.tallies_count.Goals as goal

pub returns : goal.returns
returns c = tallies_count
