use Rattle.sw_witness.proofs.Taken.{free_without_never_locks_up}
use Rattle.sw_witness.proofs.laws.free_without_never_locks_up.Goals as goal

pub returns : goal.returns
returns c = free_without_never_locks_up c.changes_keep_valid.ensures
