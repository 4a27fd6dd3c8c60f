use Rattle.sw_file.proofs.Renumbered.{version_two_is_kept}
use Rattle.sw_file.proofs.laws.version_two_is_kept.Goals as goal

pub returns : goal.returns
returns c = version_two_is_kept
