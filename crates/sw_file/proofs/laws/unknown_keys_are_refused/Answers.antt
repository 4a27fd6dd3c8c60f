use Rattle.sw_file.proofs.Known.{refuses_unknown_keys}
use Rattle.sw_file.proofs.laws.unknown_keys_are_refused.Goals as goal

pub returns : goal.returns
returns c = refuses_unknown_keys
