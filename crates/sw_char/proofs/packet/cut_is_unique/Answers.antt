use Rattle.sw_char.proofs.Cuts.{one_cut}
use Rattle.sw_char.proofs.packet.cut_is_unique.Goals as goal

pub returns : goal.returns
returns c = one_cut
