use Rattle.sw_route.proofs.Entries as entries
use Rattle.sw_route.proofs.laws.others_name_no_port.Goals as goal

pub returns : goal.returns
returns c = entries.others_none
