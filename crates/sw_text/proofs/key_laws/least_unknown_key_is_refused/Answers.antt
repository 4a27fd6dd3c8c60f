use Rattle.sw_text.proofs.Unknown.{refuses_least_unknown}
use Rattle.sw_text.proofs.key_laws.least_unknown_key_is_refused.Goals as goal

pub returns : goal.returns
returns c = refuses_least_unknown
