use Rattle.sw_mend.proofs.ChangesInWords.{other_ports_stay}
use Rattle.sw_mend.proofs.change_laws.other_ports_stay.Goals as goal

pub returns : goal.returns
returns c = other_ports_stay
