use Rattle.sw_load.proofs.Fronts.{accepted_histories_end}
use Rattle.sw_load.proofs.history_laws.accepted_histories_end.Goals as goal

pub returns : goal.returns
returns c = accepted_histories_end
