use Rattle.sw_search.proofs.Accepted.{accepted}
use Rattle.sw_search.proofs.laws.free_is_accepted.Goals as goal

pub returns : goal.returns
returns c = λ d contents valid free.
    let yes = accepted d contents valid free in
    (yes, (c.not_refused_is_accepted.ensures d contents valid).1 yes)
