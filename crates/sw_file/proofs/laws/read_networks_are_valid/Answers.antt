use Rattle.sw_file.proofs.Valid.{read_networks_are_valid}
use Rattle.sw_file.proofs.laws.read_networks_are_valid.Goals as goal

pub returns : goal.returns
returns c = read_networks_are_valid
