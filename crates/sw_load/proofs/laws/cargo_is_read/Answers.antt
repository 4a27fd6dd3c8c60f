use Rattle.sw_load.proofs.Spelled.{cargo_is_read}
use Rattle.sw_load.proofs.laws.cargo_is_read.Goals as goal

pub returns : goal.returns
returns c = cargo_is_read
