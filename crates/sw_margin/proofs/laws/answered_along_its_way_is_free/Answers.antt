use Rattle.sw_margin.proofs.Replied.{answered_along_its_way_is_free}
use Rattle.sw_margin.proofs.laws.answered_along_its_way_is_free.Goals as goal

pub returns : goal.returns
returns c = answered_along_its_way_is_free
