use Rattle.sw_app_rmap.proofs.Asked.{packets_are_asked}
use Rattle.sw_app_rmap.proofs.laws.packets_are_asked.Goals as goal

pub returns : goal.returns
returns c = packets_are_asked
