use Rattle.sw_margin.proofs.Whole.{ways_are_ways}
use Rattle.sw_margin.proofs.laws.ways_are_ways.Goals as goal

pub returns : goal.returns
returns c = ways_are_ways
