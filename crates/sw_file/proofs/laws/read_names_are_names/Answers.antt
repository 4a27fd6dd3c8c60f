use Rattle.sw_file.proofs.Named.{read_names_are_names}
use Rattle.sw_file.proofs.laws.read_names_are_names.Goals as goal

pub returns : goal.returns
returns c = read_names_are_names
