use Rattle.sw_file.proofs.Unlimited.{older_files_are_unlimited}
use Rattle.sw_file.proofs.laws.older_files_are_unlimited.Goals as goal

pub returns : goal.returns
returns c = older_files_are_unlimited
