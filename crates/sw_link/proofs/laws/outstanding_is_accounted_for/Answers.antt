use Rattle.sw_link.proofs.Accounts.{accounts}
use Rattle.sw_link.proofs.laws.outstanding_is_accounted_for.Goals as goal

pub returns : goal.returns
returns c capacity events s h = let a = accounts capacity events s h in (a.accounted, a.most)
