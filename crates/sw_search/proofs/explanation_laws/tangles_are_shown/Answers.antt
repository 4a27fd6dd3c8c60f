use Rattle.sw_search.proofs.Lawful.{tangles_are_shown}
use Rattle.sw_search.proofs.explanation_laws.tangles_are_shown.Goals as goal

pub returns : goal.returns
returns c = tangles_are_shown
