use Rattle.sw_arb.proofs.PickHistory.{longest_ago_is_picked}
use Rattle.sw_arb.proofs.laws.least_recent_picks_the_longest_ago.Goals as goal

pub returns : goal.returns
returns c = longest_ago_is_picked
