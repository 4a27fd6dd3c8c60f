use Rattle.sw_history.proofs.Follows.{follows_where_possible}
use Rattle.sw_history.proofs.laws.follows_where_possible.Goals as goal

pub returns : goal.returns
returns c = follows_where_possible
