use Rattle.sw_flow.proofs.Walked.{followers_are_listed}
use Rattle.sw_flow.proofs.laws.followers_are_listed.Goals as goal

pub returns : goal.returns
returns c = followers_are_listed
