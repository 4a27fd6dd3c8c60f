use Rattle.sw_margin.proofs.Stalled.{stalls_never_lock_up}
use Rattle.sw_margin.proofs.laws.stalls_never_lock_up.Goals as goal

pub returns : goal.returns
returns c = stalls_never_lock_up
