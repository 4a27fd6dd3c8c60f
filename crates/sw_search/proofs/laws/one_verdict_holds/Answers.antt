use Rattle.sw_search.proofs.Exactly.{one_verdict_holds, verdicts_tell}
use Rattle.sw_search.proofs.laws.one_verdict_holds.Goals as goal

pub returns : goal.returns
returns c = record { one = one_verdict_holds; told = verdicts_tell }
