use Rattle.sw_margin.proofs.Whole.{ways_have_all_places}
use Rattle.sw_margin.proofs.laws.ways_have_all_places.Goals as goal

pub returns : goal.returns
returns c = ways_have_all_places
