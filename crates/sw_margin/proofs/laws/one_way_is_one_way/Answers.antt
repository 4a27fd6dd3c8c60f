use Rattle.sw_margin.proofs.Tellings.{one_way_is_one_way}
use Rattle.sw_margin.proofs.laws.one_way_is_one_way.Goals as goal

pub returns : goal.returns
returns c = one_way_is_one_way
