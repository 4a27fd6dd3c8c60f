use Rattle.sw_search.proofs.Exactly.{rising_is_where_no_cycle_is}
use Rattle.sw_search.proofs.laws.rising_is_where_no_cycle_is.Goals as goal

pub returns : goal.returns
returns c = rising_is_where_no_cycle_is
