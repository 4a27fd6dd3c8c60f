use Rattle.sw_search.proofs.Lawful.{tangles_are_where_cycles_are}
use Rattle.sw_search.proofs.explanation_laws.tangles_are_where_cycles_are.Goals as goal

pub returns : goal.returns
returns c = tangles_are_where_cycles_are
