use Rattle.sw_margin.proofs.Lawful.{free_before}
use Rattle.sw_margin.proofs.laws.free_before.Goals as goal

pub returns : goal.returns
returns c = free_before
